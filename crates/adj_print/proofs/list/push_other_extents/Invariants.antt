-- What was added and what is left are the extents behind commas.
use Rattle.std.proofs.Common.{◌≡◌, ◌++◌, drop, map}
use Rattle.adj_tree.specs.View.{extent_of}
use Rattle.def_text.specs.Text.{behind_commas, extent_text}
use Rattle.adj_print.proofs.list.push_other_extents.Given as goal

abbrev pub invariant-loop-extent : goal.invariant-loop-extent
invariant-loop-extent l = l.out.items ++ behind_commas (map extent_text (map extent_of (drop l.extent-index l.extents))) ≡ l.fn.out.items ++ behind_commas (map extent_text (map extent_of l.extents))
