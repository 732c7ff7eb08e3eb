-- The extents passed are the same, so that those left decide.
use Rattle.std.proofs.Common.{◌≡◌, map, drop, length}
use Rattle.adj_tree.specs.View.{extent_of}
use Rattle.def_common.specs.Refused.{are_same_extents}
use Rattle.adj_common.proofs.extents.same_extents.Given as goal

abbrev pub invariant-loop-place : goal.invariant-loop-place
invariant-loop-place l = record {
  long : length l.one ≡ length l.other;
  left : are_same_extents (map extent_of (drop l.place l.one)) (map extent_of (drop l.place l.other)) ≡ are_same_extents (map extent_of l.one) (map extent_of l.other);
}
