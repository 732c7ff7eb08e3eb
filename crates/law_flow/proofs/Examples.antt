-- The sets of worked programs, computed.
use Rattle.std.proofs.Common.{refl}
use Rattle.law_flow.specs.Examples as worked
use Rattle.law_flow.proofs.Computing.{computed_table}

pub square_worked : worked.Square
square_worked = computed_table worked.square_program 4 worked.square_marks refl refl

pub constant_worked : worked.Constant
constant_worked = computed_table worked.constant_program 4 worked.constant_marks refl refl

pub one_branch_worked : worked.OneBranch
one_branch_worked = computed_table worked.one_branch_program 6 worked.one_branch_marks refl refl

pub reset_by_constant_worked : worked.ResetByConstant
reset_by_constant_worked = computed_table worked.reset_by_constant_program 6 worked.reset_by_constant_marks refl refl

pub factor_worked : worked.Factor
factor_worked = computed_table worked.factor_program 4 worked.factor_marks refl refl

pub unused_worked : worked.Unused
unused_worked = computed_table worked.unused_program 6 worked.unused_marks refl refl

pub kept_for_a_read_worked : worked.KeptForARead
kept_for_a_read_worked = computed_table worked.kept_for_a_read_program 6 worked.kept_for_a_read_marks refl refl

pub saved_for_itself_worked : worked.SavedForItself
saved_for_itself_worked = computed_table worked.saved_for_itself_program 10 worked.saved_for_itself_marks refl refl

pub held_worked : worked.Held
held_worked = computed_table worked.held_program 10 worked.held_marks refl refl

pub held_no_further_worked : worked.HeldNoFurther
held_no_further_worked = computed_table worked.held_no_further_program 12 worked.held_no_further_marks refl refl

pub held_past_dropped_worked : worked.HeldPastDropped
held_past_dropped_worked = computed_table worked.held_past_dropped_program 12 worked.held_past_dropped_marks refl refl

pub back_edge_worked : worked.BackEdge
back_edge_worked = computed_table worked.back_edge_program 12 worked.back_edge_marks refl refl

pub power_worked : worked.Power
power_worked = computed_table worked.power_program 12 worked.power_marks refl refl

pub index_worked : worked.Index
index_worked = computed_table worked.index_program 10 worked.index_marks refl refl

pub counter_saved_worked : worked.CounterSaved
counter_saved_worked = computed_table worked.counter_saved_program 12 worked.counter_saved_marks refl refl

pub counter_reset_worked : worked.CounterReset
counter_reset_worked = computed_table worked.counter_reset_program 12 worked.counter_reset_marks refl refl

pub dropped_in_a_branch_worked : worked.DroppedInABranch
dropped_in_a_branch_worked = computed_table worked.dropped_in_a_branch_program 10 worked.dropped_in_a_branch_marks refl refl

pub quotient_worked : worked.Quotient
quotient_worked = computed_table worked.quotient_program 4 worked.quotient_marks refl refl

pub first_power_worked : worked.FirstPower
first_power_worked = computed_table worked.first_power_program 4 worked.first_power_marks refl refl

pub cube_worked : worked.Cube
cube_worked = computed_table worked.cube_program 4 worked.cube_marks refl refl

pub no_power_worked : worked.NoPower
no_power_worked = computed_table worked.no_power_program 4 worked.no_power_marks refl refl

pub power_by_variable_worked : worked.PowerByVariable
power_by_variable_worked = computed_table worked.power_by_variable_program 4 worked.power_by_variable_marks refl refl

pub varied_exponent_worked : worked.VariedExponent
varied_exponent_worked = computed_table worked.varied_exponent_program 4 worked.varied_exponent_marks refl refl

pub while_worked : worked.While
while_worked = computed_table worked.while_program 14 worked.while_marks refl refl

pub square_by_call_worked : worked.SquareByCall
square_by_call_worked = computed_table worked.square_by_call_program 10 worked.square_by_call_marks refl refl

pub reset_by_call_worked : worked.ResetByCall
reset_by_call_worked = computed_table worked.reset_by_call_program 10 worked.reset_by_call_marks refl refl

pub plain_call_worked : worked.PlainCall
plain_call_worked = computed_table worked.plain_call_program 10 worked.plain_call_marks refl refl

pub call_that_saves_worked : worked.CallThatSaves
call_that_saves_worked = computed_table worked.call_that_saves_program 12 worked.call_that_saves_marks refl refl

pub not_called_worked : worked.NotCalled
not_called_worked = computed_table worked.not_called_program 4 worked.not_called_marks refl refl

pub extent_worked : worked.Extent
extent_worked = computed_table worked.extent_program 10 worked.extent_marks refl refl

pub marked_loop_worked : worked.MarkedLoop
marked_loop_worked = computed_table worked.marked_loop_program 12 worked.marked_loop_marks refl refl

pub named_count_worked : worked.NamedCount
named_count_worked = computed_table worked.named_count_program 14 worked.named_count_marks refl refl
