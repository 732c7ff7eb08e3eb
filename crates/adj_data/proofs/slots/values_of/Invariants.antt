use Rattle.std.proofs.Common.{◌≡◌, Some, map, take}
use Rattle.adj_tree.specs.View.{extent_of}
use Rattle.adj_data.specs.Faults.{extents_given}
use Rattle.adj_data.proofs.slots.values_of.Given as goal

abbrev pub invariant-loop-extent : goal.invariant-loop-extent
invariant-loop-extent l = extents_given l.entries (map extent_of (take l.extent-index l.extents)) ≡ Some l.values.items
