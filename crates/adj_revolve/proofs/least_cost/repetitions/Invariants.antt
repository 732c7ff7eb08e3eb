use Rattle.std.proofs.Common.{ℕ, ◌-◌, ◌≤◌, ◌<◌}
use Rattle.adj_revolve.specs.Binomial.{beta}
use Rattle.adj_revolve.proofs.least_cost.repetitions.Given as goal

abbrev pub invariant-loop-low : goal.invariant-loop-low
invariant-loop-low l = record {
  in_range : l.low ≤ l.high;
  enough : l.steps ≤ beta l.snapshots l.high;
  fewer : (r : ℕ) → r < l.low → beta l.snapshots r < l.steps;
}

abbrev pub decreases-loop-low : goal.decreases-loop-low
decreases-loop-low l = l.high - l.low
