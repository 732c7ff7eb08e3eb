-- The number lies between the two.
use Rattle.std.proofs.Common.{◌-◌, ◌<◌, ◌≤◌}
use Rattle.adj_revolve.specs.Binomial.{beta}
use Rattle.adj_revolve_count.proofs.counting.repetitions_within.Given as goal

abbrev pub invariant-loop-high : goal.invariant-loop-high
invariant-loop-high l = record {
  order : l.low < l.high;
  fits : beta l.snapshots l.low ≤ l.steps;
  most : l.steps < beta l.snapshots l.high;
}

abbrev pub decreases-loop-high : goal.decreases-loop-high
decreases-loop-high l = l.high - l.low
