use Rattle.law_emitted.proofs.Through.{kernels_adjoint}
use Rattle.law_emitted.proofs.accepted.adjoint_law.Goals as goal

pub returns : goal.returns
returns c = kernels_adjoint
