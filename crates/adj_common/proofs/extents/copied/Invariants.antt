-- What was made is equal to the first part of the list.
use Rattle.std.proofs.Common.{◌≡◌, map, take}
use Rattle.adj_tree.specs.View.{extent_of}
use Rattle.adj_common.proofs.extents.copied.Given as goal

abbrev pub invariant-loop-extent : goal.invariant-loop-extent
invariant-loop-extent l = map extent_of l.made.items ≡ map extent_of (take l.extent-index l.extents)
