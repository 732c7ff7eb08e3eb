use Rattle.std.proofs.Common.{sym}
use Rattle.adj_tool_jacobian.proofs.Placing.{column_past, column_there}
use Rattle.adj_tool_jacobian.proofs.lines.column_at.Goals as goal

pub returns-in-Some : goal.returns-in-Some
returns-in-Some c = let found = c.in-Some.ensures.lookup in sym (column_there c.args.columns.now c.args.number c.in-Some.cell.now found.3.0 found.1)

pub returns-in-None : goal.returns-in-None
returns-in-None c = sym (column_past c.args.columns.now c.args.number c.in-None.ensures.lookup.3)
