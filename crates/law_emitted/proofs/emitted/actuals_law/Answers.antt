use Rattle.law_emitted.proofs.ActualFaults.{actuals_have_none}
use Rattle.law_emitted.proofs.emitted.actuals_law.Goals as goal

pub returns : goal.returns
returns c = actuals_have_none
