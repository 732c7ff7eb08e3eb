use Rattle.std.proofs.Common.{sym, ◌∙◌}
use Rattle.adj_tool_jacobian.proofs.Placing.{name_past, name_there}
use Rattle.adj_tool_jacobian.proofs.lines.name_at.Goals as goal

pub returns-in-Some : goal.returns-in-Some
returns-in-Some c = let found = c.in-Some.ensures.lookup in c.bytes.ensures.bytes ∙ sym (name_there c.args.names.now c.args.dummy c.in-Some.name.now found.3.0 found.1)

pub returns-in-None : goal.returns-in-None
returns-in-None c = sym (name_past c.args.names.now c.args.dummy c.in-None.ensures.lookup.3)
