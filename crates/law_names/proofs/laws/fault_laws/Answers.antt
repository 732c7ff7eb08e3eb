use Rattle.def_names.proofs.Order.{first_is_first, no_first, first_of_same}
use Rattle.def_names.proofs.Sound.{sound_has_none}
use Rattle.law_names.proofs.Lines.{sound_lines}
use Rattle.law_names.proofs.laws.fault_laws.Goals as goal

pub returns-clause-is_first : goal.returns-clause-is_first
returns-clause-is_first c = first_is_first

pub returns-clause-no_first : goal.returns-clause-no_first
returns-clause-no_first c = no_first

pub returns-clause-of_same : goal.returns-clause-of_same
returns-clause-of_same c = first_of_same

pub returns-clause-sound : goal.returns-clause-sound
returns-clause-sound c = sound_has_none

pub returns-clause-lines : goal.returns-clause-lines
returns-clause-lines c = sound_lines
