use Rattle.std.proofs.Common.{◌≡◌, drop}
use Rattle.std.specs.Prelude.{◌+◌}
use Rattle.adj_jacobian_groups.specs.View.{rows_of}
use Rattle.adj_tool_jacobian.specs.Written.{pairs_in}
use Rattle.adj_tool_jacobian.proofs.lines.pairs.Given as goal

abbrev pub invariant-loop-row : goal.invariant-loop-row
invariant-loop-row l = l.count + pairs_in (rows_of (drop l.row-index l.rows)) ≡ pairs_in (rows_of l.rows)
