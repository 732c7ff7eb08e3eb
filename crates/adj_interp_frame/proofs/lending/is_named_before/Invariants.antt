-- No actual so far is the variable or one of its cells.
use Rattle.std.proofs.Common.{◌≡◌, ◌<◌, ℕ}
use Rattle.std.specs.Prelude.{Some, slice_get}
use Rattle.adj_interp_frame.specs.declared.actual.Actual.{Actual}
use Rattle.adj_interp_frame.specs.Lent.{IsPlaceIn}
use Rattle.adj_interp_frame.proofs.lending.is_named_before.Given as goal

abbrev pub invariant-loop-j : goal.invariant-loop-j
invariant-loop-j g l = record {
  none : (k : ℕ) (a : Actual _) → k < l.j → slice_get l.actuals k ≡ Some a → IsPlaceIn a l.variable → ⊥;
}
