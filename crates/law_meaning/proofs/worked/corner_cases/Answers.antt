-- Each run is computed.
use Rattle.law_meaning.proofs.Cases.{each_relation, signs_compared, conditions_joined, rows_and_columns, extents_that_fit, each_action, no_other_action, ends_of_reversals, long_loops, no_turn, other_tangents, popped_in_part, power_of_variable, exponents_that_trap, powers_during, last_tests, counts_in_force}
use Rattle.law_meaning.proofs.worked.corner_cases.Goals as goal

pub returns-clause-each_relation : goal.returns-clause-each_relation
returns-clause-each_relation c = each_relation

pub returns-clause-signs_compared : goal.returns-clause-signs_compared
returns-clause-signs_compared c = signs_compared

pub returns-clause-conditions_joined : goal.returns-clause-conditions_joined
returns-clause-conditions_joined c = conditions_joined

pub returns-clause-rows_and_columns : goal.returns-clause-rows_and_columns
returns-clause-rows_and_columns c = rows_and_columns

pub returns-clause-extents_that_fit : goal.returns-clause-extents_that_fit
returns-clause-extents_that_fit c = extents_that_fit

pub returns-clause-each_action : goal.returns-clause-each_action
returns-clause-each_action c = each_action

pub returns-clause-no_other_action : goal.returns-clause-no_other_action
returns-clause-no_other_action c = no_other_action

pub returns-clause-ends_of_reversals : goal.returns-clause-ends_of_reversals
returns-clause-ends_of_reversals c = ends_of_reversals

pub returns-clause-long_loops : goal.returns-clause-long_loops
returns-clause-long_loops c = long_loops

pub returns-clause-no_turn : goal.returns-clause-no_turn
returns-clause-no_turn c = no_turn

pub returns-clause-other_tangents : goal.returns-clause-other_tangents
returns-clause-other_tangents c = other_tangents

pub returns-clause-popped_in_part : goal.returns-clause-popped_in_part
returns-clause-popped_in_part c = popped_in_part

pub returns-clause-power_of_variable : goal.returns-clause-power_of_variable
returns-clause-power_of_variable c = power_of_variable

pub returns-clause-exponents_that_trap : goal.returns-clause-exponents_that_trap
returns-clause-exponents_that_trap c = exponents_that_trap

pub returns-clause-powers_during : goal.returns-clause-powers_during
returns-clause-powers_during c = powers_during

pub returns-clause-counts_in_force : goal.returns-clause-counts_in_force
returns-clause-counts_in_force c = counts_in_force

pub returns-clause-last_tests : goal.returns-clause-last_tests
returns-clause-last_tests c = last_tests
