use Rattle.std.proofs.Common.{sym}
use Rattle.adj_tool_jacobian.proofs.Placing.{row_past, row_there}
use Rattle.adj_tool_jacobian.proofs.lines.row_at.Goals as goal

pub returns-in-Some : goal.returns-in-Some
returns-in-Some c = let found = c.in-Some.ensures.lookup in sym (row_there c.args.rows.now c.args.number c.in-Some.row.now found.3.0 found.1)

pub returns-in-None : goal.returns-in-None
returns-in-None c = sym (row_past c.args.rows.now c.args.number c.in-None.ensures.lookup.3)
