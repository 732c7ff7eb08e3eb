-- The members passed are laid out alike, so that those left decide.
use Rattle.std.proofs.Common.{◌≡◌, map, drop, length}
use Rattle.def_common.specs.Refused.{is_same_layout}
use Rattle.adj_common.specs.Views.{entry_of}
use Rattle.adj_common.specs.Layouts.{layout_of}
use Rattle.adj_common.proofs.layouts.same_layout.Given as goal

abbrev pub invariant-loop-place : goal.invariant-loop-place
invariant-loop-place l = record {
  long : length l.one ≡ length l.other;
  left : is_same_layout (layout_of (map entry_of (drop l.place l.one))) (layout_of (map entry_of (drop l.place l.other))) ≡ is_same_layout (layout_of (map entry_of l.one)) (layout_of (map entry_of l.other));
}
