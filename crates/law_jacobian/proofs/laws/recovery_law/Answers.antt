-- Each row has one column of a group.
use Rattle.law_jacobian.proofs.Recovering.{recovers_dense}
use Rattle.law_jacobian.proofs.laws.recovery_law.Goals as goal

pub returns : goal.returns
returns c = record { dense = recovers_dense }
