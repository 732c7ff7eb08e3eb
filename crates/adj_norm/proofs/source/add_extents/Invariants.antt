-- The names in the extents left are still to be added.
use Rattle.std.proofs.Common.{◌≡◌, map, drop}
use Rattle.adj_tree.specs.View.{extent_of}
use Rattle.adj_sets.specs.Sets.{all_added}
use Rattle.adj_norm.specs.Source.{extents_in}
use Rattle.adj_norm.proofs.source.add_extents.Given as goal

abbrev pub invariant-loop-extent : goal.invariant-loop-extent
invariant-loop-extent l = all_added l.names (extents_in (map extent_of (drop l.extent-index l.extents))) ≡ all_added l.fn.names (extents_in (map extent_of l.extents))
