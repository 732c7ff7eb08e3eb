-- No extent that was passed is a name.
use Rattle.std.proofs.Common.{◌≡◌, map, length, drop}
use Rattle.std.specs.Prelude.{◌==◌}
use Rattle.adj_tree.specs.View.{extent_of}
use Rattle.def_names.specs.NameFaults.{extent_names}
use Rattle.adj_symbols.proofs.extents.has_names.Given as goal

abbrev pub invariant-loop-extent : goal.invariant-loop-extent
invariant-loop-extent l = (length (extent_names (map extent_of (drop l.extent-index l.extents))) == 0) ≡ (length (extent_names (map extent_of l.extents)) == 0)
