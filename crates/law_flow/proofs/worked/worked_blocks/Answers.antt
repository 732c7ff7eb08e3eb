-- Each table is computed.
use Rattle.law_flow.proofs.Examples.{one_branch_worked, back_edge_worked, power_worked, index_worked, counter_saved_worked, counter_reset_worked, dropped_in_a_branch_worked, while_worked}
use Rattle.law_flow.proofs.worked.worked_blocks.Goals as goal

pub returns-clause-one_branch : goal.returns-clause-one_branch
returns-clause-one_branch c = one_branch_worked

pub returns-clause-back_edge : goal.returns-clause-back_edge
returns-clause-back_edge c = back_edge_worked

pub returns-clause-power : goal.returns-clause-power
returns-clause-power c = power_worked

pub returns-clause-index : goal.returns-clause-index
returns-clause-index c = index_worked

pub returns-clause-counter_saved : goal.returns-clause-counter_saved
returns-clause-counter_saved c = counter_saved_worked

pub returns-clause-counter_reset : goal.returns-clause-counter_reset
returns-clause-counter_reset c = counter_reset_worked

pub returns-clause-dropped_in_a_branch : goal.returns-clause-dropped_in_a_branch
returns-clause-dropped_in_a_branch c = dropped_in_a_branch_worked

pub returns-clause-while_loop : goal.returns-clause-while_loop
returns-clause-while_loop c = while_worked
