use Rattle.law_planned.proofs.Planned.{is_adjoint, spends, is_written, is_sound}
use Rattle.law_planned.proofs.planned_law.Goals as goal

pub returns-clause-adjoint : goal.returns-clause-adjoint
returns-clause-adjoint c = is_adjoint

pub returns-clause-written : goal.returns-clause-written
returns-clause-written c = is_written

pub returns-clause-sound : goal.returns-clause-sound
returns-clause-sound c = is_sound

pub returns-clause-spends : goal.returns-clause-spends
returns-clause-spends c = spends
