-- The lines of the statements passed, and of those that are left.
use Rattle.std.proofs.Common.{◌≡◌, ◌++◌, ◌+◌, drop}
use Rattle.adj_symbols_writes.specs.View.{seen}
use Rattle.adj_flow.specs.NodeView.{vars_of}
use Rattle.adj_flow.specs.Rows.{row_of}
use Rattle.adj_plan.specs.Lines.{lines_from}
use Rattle.adj_plan.specs.View.{said_by}
use Rattle.adj_plan.proofs.lines.add_lines.Given as goal

abbrev pub invariant-loop-place : goal.invariant-loop-place
invariant-loop-place l =
    l.out.items ++ lines_from (said_by l.planned.marks l.planned.flow.width (vars_of (row_of l.part))) l.part.unit.now.name (l.part.first + l.place) (seen (drop l.place l.statements))
    ≡ l.initial.out.items ++ lines_from (said_by l.planned.marks l.planned.flow.width (vars_of (row_of l.part))) l.part.unit.now.name l.part.first (seen l.statements)
