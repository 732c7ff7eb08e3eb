use Rattle.law_sweep.proofs.Adjoint.{full_is_adjoint}
use Rattle.law_sweep.proofs.full_marks_law.Goals as goal

pub returns : goal.returns
returns c = record { adjoint = full_is_adjoint }
