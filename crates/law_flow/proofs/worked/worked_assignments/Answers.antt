-- Each table is computed.
use Rattle.law_flow.proofs.Examples.{square_worked, constant_worked, reset_by_constant_worked, factor_worked, unused_worked, kept_for_a_read_worked, saved_for_itself_worked, held_worked, held_no_further_worked, held_past_dropped_worked, quotient_worked, first_power_worked, cube_worked, no_power_worked, power_by_variable_worked, varied_exponent_worked}
use Rattle.law_flow.proofs.worked.worked_assignments.Goals as goal

pub returns-clause-square : goal.returns-clause-square
returns-clause-square c = square_worked

pub returns-clause-constant : goal.returns-clause-constant
returns-clause-constant c = constant_worked

pub returns-clause-reset_by_constant : goal.returns-clause-reset_by_constant
returns-clause-reset_by_constant c = reset_by_constant_worked

pub returns-clause-factor : goal.returns-clause-factor
returns-clause-factor c = factor_worked

pub returns-clause-unused : goal.returns-clause-unused
returns-clause-unused c = unused_worked

pub returns-clause-kept_for_a_read : goal.returns-clause-kept_for_a_read
returns-clause-kept_for_a_read c = kept_for_a_read_worked

pub returns-clause-saved_for_itself : goal.returns-clause-saved_for_itself
returns-clause-saved_for_itself c = saved_for_itself_worked

pub returns-clause-held : goal.returns-clause-held
returns-clause-held c = held_worked

pub returns-clause-held_no_further : goal.returns-clause-held_no_further
returns-clause-held_no_further c = held_no_further_worked

pub returns-clause-held_past_dropped : goal.returns-clause-held_past_dropped
returns-clause-held_past_dropped c = held_past_dropped_worked

pub returns-clause-quotient : goal.returns-clause-quotient
returns-clause-quotient c = quotient_worked

pub returns-clause-first_power : goal.returns-clause-first_power
returns-clause-first_power c = first_power_worked

pub returns-clause-cube : goal.returns-clause-cube
returns-clause-cube c = cube_worked

pub returns-clause-no_power : goal.returns-clause-no_power
returns-clause-no_power c = no_power_worked

pub returns-clause-power_by_variable : goal.returns-clause-power_by_variable
returns-clause-power_by_variable c = power_by_variable_worked

pub returns-clause-varied_exponent : goal.returns-clause-varied_exponent
returns-clause-varied_exponent c = varied_exponent_worked
