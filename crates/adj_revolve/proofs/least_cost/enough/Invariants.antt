use Rattle.std.proofs.Common.{◌+◌, ◌*◌, ◌-◌, ◌≤◌, ◌<◌, ◌/◌}
use Rattle.adj_revolve.specs.Binomial.{beta}
use Rattle.adj_revolve.proofs.least_cost.enough.Given as goal

abbrev pub invariant-loop-repetitions : goal.invariant-loop-repetitions
invariant-loop-repetitions l = record {
  some : 0 < l.repetitions;
  within : l.repetitions ≤ 2 * l.steps + 1;
  half_fails : 1 < l.repetitions → beta l.snapshots (l.repetitions / 2) < l.steps;
}

abbrev pub decreases-loop-repetitions : goal.decreases-loop-repetitions
decreases-loop-repetitions l = 2 * l.steps + 2 - l.repetitions
