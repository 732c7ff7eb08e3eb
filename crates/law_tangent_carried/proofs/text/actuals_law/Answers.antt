use Rattle.law_tangent_carried.proofs.ActualFaults.{actuals_have_none}
use Rattle.law_tangent_carried.proofs.text.actuals_law.Goals as goal

pub returns : goal.returns
returns c = actuals_have_none
