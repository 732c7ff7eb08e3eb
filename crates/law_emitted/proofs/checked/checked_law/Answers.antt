use Rattle.law_emitted.proofs.Premises.{checked_is_adjoint}
use Rattle.law_emitted.proofs.checked.checked_law.Goals as goal

pub returns : goal.returns
returns c = checked_is_adjoint
