-- What holds of a checked program in kernel form holds of the kernel.
use Rattle.law_emitted.proofs.Through.{emitted_is_adjoint, is_written, is_sound}
use Rattle.law_emitted.proofs.accepted.accepted_law.Goals as goal

pub returns-clause-adjoint : goal.returns-clause-adjoint
returns-clause-adjoint c = emitted_is_adjoint

pub returns-clause-written : goal.returns-clause-written
returns-clause-written c = is_written

pub returns-clause-sound : goal.returns-clause-sound
returns-clause-sound c = is_sound
