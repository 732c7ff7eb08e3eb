use Rattle.law_sweep.proofs.Adjoint.{emitted_is_adjoint}
use Rattle.law_sweep.proofs.emitted_law.Goals as goal

pub returns : goal.returns
returns c = emitted_is_adjoint
