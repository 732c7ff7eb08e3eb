-- Each kernel computes.
use Rattle.std.proofs.Common.{refl}
use Rattle.law_kernel.proofs.worked_kernels.Goals as goal

pub returns-clause-one_each : goal.returns-clause-one_each
returns-clause-one_each c = (refl, (refl, refl))

pub returns-clause-maximum_in_maximum : goal.returns-clause-maximum_in_maximum
returns-clause-maximum_in_maximum c = (refl, refl)

pub returns-clause-in_operations : goal.returns-clause-in_operations
returns-clause-in_operations c = (refl, refl)

pub returns-clause-left_alone : goal.returns-clause-left_alone
returns-clause-left_alone c = (refl, (refl, (refl, (refl, refl))))

pub returns-clause-in_powers : goal.returns-clause-in_powers
returns-clause-in_powers c = (refl, refl)

pub returns-clause-targets_apart : goal.returns-clause-targets_apart
returns-clause-targets_apart c = (refl, (refl, refl))

pub returns-clause-names_of_calls : goal.returns-clause-names_of_calls
returns-clause-names_of_calls c = (refl, (refl, refl))

pub returns-clause-elements_of_calls : goal.returns-clause-elements_of_calls
returns-clause-elements_of_calls c = (refl, refl)

pub returns-clause-values_of_calls : goal.returns-clause-values_of_calls
returns-clause-values_of_calls c = (refl, refl)

pub returns-clause-bodies_lowered : goal.returns-clause-bodies_lowered
returns-clause-bodies_lowered c = (refl, (refl, refl))

pub returns-clause-locals_named : goal.returns-clause-locals_named
returns-clause-locals_named c = refl

pub returns-clause-worked_example : goal.returns-clause-worked_example
returns-clause-worked_example c = refl

pub returns-clause-step_units : goal.returns-clause-step_units
returns-clause-step_units c = refl

pub returns-clause-step_units_accepted : goal.returns-clause-step_units_accepted
returns-clause-step_units_accepted c = (refl, refl)
