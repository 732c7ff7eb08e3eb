use Rattle.law_planned.proofs.Planned.{is_reversed, kernel_spends, kernel_spends_split, reversed_written, reversed_sound}
use Rattle.law_planned.proofs.OwnNames.{own_names}
use Rattle.law_planned.proofs.reversed_law.Goals as goal

pub returns-clause-adjoint : goal.returns-clause-adjoint
returns-clause-adjoint c = is_reversed

pub returns-clause-written : goal.returns-clause-written
returns-clause-written c = reversed_written

pub returns-clause-sound : goal.returns-clause-sound
returns-clause-sound c = reversed_sound

pub returns-clause-own_names : goal.returns-clause-own_names
returns-clause-own_names c = own_names

pub returns-clause-spends : goal.returns-clause-spends
returns-clause-spends c = kernel_spends

pub returns-clause-spends_split : goal.returns-clause-spends_split
returns-clause-spends_split c = kernel_spends_split
