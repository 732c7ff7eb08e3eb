-- By the runs of programs without runtime calls.
use Rattle.adj_tool_jacobian.proofs.Roomless.{never_full}
use Rattle.adj_tool_jacobian.proofs.laws.never_full.Goals as goal

pub returns : goal.returns
returns c = record { status = never_full }
