-- The row with as many repetitions as the upper bound is such an end.
use Rattle.std.proofs.Common.{◌-◌, ◌≤◌}
use Rattle.adj_revolve_count.specs.Rows.{IsEndOf}
use Rattle.adj_revolve_count.proofs.row.Row.shortened.Given as goal

abbrev pub invariant-loop-low : goal.invariant-loop-low
invariant-loop-low l = record {
  order : l.low ≤ l.high;
  fewer : l.high ≤ l.self.repetitions;
  ends : IsEndOf (record l.self { repetitions = l.high }) l.self l.left;
}

abbrev pub decreases-loop-low : goal.decreases-loop-low
decreases-loop-low l = l.high - l.low
