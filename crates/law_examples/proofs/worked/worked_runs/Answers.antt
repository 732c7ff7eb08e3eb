use Rattle.std.proofs.Common.{refl}
use Rattle.std.specs.Int.{int_wrap}
use Rattle.def_meaning.specs.Run.{most_tests}
use Rattle.law_examples.proofs.worked.worked_runs.Goals as goal

pub returns-clause-array_sum : goal.returns-clause-array_sum
unfolding int_wrap most_tests
returns-clause-array_sum c = refl

pub returns-clause-branch_taken : goal.returns-clause-branch_taken
unfolding int_wrap most_tests
returns-clause-branch_taken c = refl

pub returns-clause-branch_left : goal.returns-clause-branch_left
unfolding int_wrap most_tests
returns-clause-branch_left c = refl

pub returns-clause-called : goal.returns-clause-called
unfolding int_wrap most_tests
returns-clause-called c = refl

pub returns-clause-do_while : goal.returns-clause-do_while
unfolding int_wrap most_tests
returns-clause-do_while c = refl

pub returns-clause-power_of_zero : goal.returns-clause-power_of_zero
unfolding int_wrap most_tests
returns-clause-power_of_zero c = refl

pub returns-clause-fourth_power : goal.returns-clause-fourth_power
unfolding int_wrap most_tests
returns-clause-fourth_power c = refl

pub returns-clause-zero_to_one : goal.returns-clause-zero_to_one
unfolding int_wrap most_tests
returns-clause-zero_to_one c = refl

pub returns-clause-saved_by_the_call : goal.returns-clause-saved_by_the_call
unfolding int_wrap most_tests
returns-clause-saved_by_the_call c = refl
