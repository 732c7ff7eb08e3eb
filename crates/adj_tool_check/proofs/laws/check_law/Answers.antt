use Rattle.adj_tool_check.proofs.Agreeing.{check_agrees, check_traps}
use Rattle.adj_tool_check.proofs.laws.check_law.Goals as goal

pub returns : goal.returns
returns c = record { agrees = check_agrees c.advance_law.ensures; traps = check_traps }
