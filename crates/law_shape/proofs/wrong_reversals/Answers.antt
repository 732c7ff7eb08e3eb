use Rattle.law_shape.proofs.Reversed.{not_pushing_in_steps, not_taking_twice, not_stepping_back, not_setting_outside, not_zeroing_own, not_dropped, not_as_others, not_itself}
use Rattle.law_shape.proofs.wrong_reversals.Goals as goal

pub returns-clause-pushing_in_steps : goal.returns-clause-pushing_in_steps
returns-clause-pushing_in_steps c = not_pushing_in_steps

pub returns-clause-taking_twice : goal.returns-clause-taking_twice
returns-clause-taking_twice c = not_taking_twice

pub returns-clause-stepping_back : goal.returns-clause-stepping_back
returns-clause-stepping_back c = not_stepping_back

pub returns-clause-setting_outside : goal.returns-clause-setting_outside
returns-clause-setting_outside c = not_setting_outside

pub returns-clause-zeroing_own : goal.returns-clause-zeroing_own
returns-clause-zeroing_own c = not_zeroing_own

pub returns-clause-dropped : goal.returns-clause-dropped
returns-clause-dropped c = not_dropped

pub returns-clause-as_others : goal.returns-clause-as_others
returns-clause-as_others c = not_as_others

pub returns-clause-itself : goal.returns-clause-itself
returns-clause-itself c = not_itself
