use Rattle.law_emitted.proofs.Premises.{lawful_fits, lawful_is_adjoint, reached_is_adjoint}
use Rattle.law_emitted.proofs.checked.lawful_law.Goals as goal

pub returns-clause-fits : goal.returns-clause-fits
returns-clause-fits c = lawful_fits

pub returns-clause-adjoint : goal.returns-clause-adjoint
returns-clause-adjoint c = lawful_is_adjoint

pub returns-clause-reached : goal.returns-clause-reached
returns-clause-reached c = reached_is_adjoint
