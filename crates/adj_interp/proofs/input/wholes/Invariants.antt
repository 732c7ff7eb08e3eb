-- The actuals so far are the first variables.
use Rattle.std.proofs.Common.{◌≡◌, ℕ, ◌<◌, length, get_or}
use Rattle.adj_interp_frame.specs.declared.actual.Actual.{Actual}
use Rattle.adj_interp_frame.specs.declared.actual.Actual.TheVariants as actual
use Rattle.adj_interp.proofs.input.wholes.Given as goal

abbrev pub invariant-loop-i : goal.invariant-loop-i
invariant-loop-i g l = record {
  count : length l.all.items ≡ l.i;
  each : (k : ℕ) (d : Actual g.row.N.Denot) → k < l.i → get_or l.all.items k d ≡ actual.Whole k;
}
