-- The extents passed, and those that are left.
use Rattle.std.proofs.Common.{◌≡◌, ◌++◌, map, drop}
use Rattle.adj_tree.specs.Code.{plain}
use Rattle.adj_tree.specs.View.{extent_of}
use Rattle.def_names.specs.NameFaults.{extent_names}
use Rattle.adj_symbols_writes.specs.View.{vars_seen}
use Rattle.adj_common.proofs.naming.add_extents.Given as goal

abbrev pub invariant-loop-extent : goal.invariant-loop-extent
invariant-loop-extent l = vars_seen l.out.items ++ map plain (extent_names (map extent_of (drop l.extent-index l.extents))) ≡ vars_seen l.initial.out.items ++ map plain (extent_names (map extent_of l.extents))
