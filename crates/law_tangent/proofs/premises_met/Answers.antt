use Rattle.law_tangent.proofs.Premises.{units_fit, called_fit}
use Rattle.law_tangent.proofs.premises_met.Goals as goal

pub returns-clause-alone : goal.returns-clause-alone
returns-clause-alone c = units_fit

pub returns-clause-with_call : goal.returns-clause-with_call
returns-clause-with_call c = called_fit
