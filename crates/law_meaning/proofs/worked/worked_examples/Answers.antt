-- Each run is computed.
use Rattle.law_meaning.proofs.Samples.{square_of_three, square_of_least, sum_of_one_element, powers_of_two, long_steps, quotients_and_traps, cube_by_call, squared_element, array_passed, shapes_told, adjoint_of_squares, pop_from_empty, array_saved, last_action, open_reversal, events_in_order, chosen_tangents}
use Rattle.law_meaning.proofs.worked.worked_examples.Goals as goal

pub returns-clause-square : goal.returns-clause-square
returns-clause-square c = square_of_three

pub returns-clause-square_of_least : goal.returns-clause-square_of_least
returns-clause-square_of_least c = square_of_least

pub returns-clause-elements : goal.returns-clause-elements
returns-clause-elements c = sum_of_one_element

pub returns-clause-powers : goal.returns-clause-powers
returns-clause-powers c = powers_of_two

pub returns-clause-long_steps : goal.returns-clause-long_steps
returns-clause-long_steps c = long_steps

pub returns-clause-quotients : goal.returns-clause-quotients
returns-clause-quotients c = quotients_and_traps

pub returns-clause-call : goal.returns-clause-call
returns-clause-call c = cube_by_call

pub returns-clause-call_of_element : goal.returns-clause-call_of_element
returns-clause-call_of_element c = squared_element

pub returns-clause-call_with_array : goal.returns-clause-call_with_array
returns-clause-call_with_array c = array_passed

pub returns-clause-adjoint : goal.returns-clause-adjoint
returns-clause-adjoint c = adjoint_of_squares

pub returns-clause-pop_from_empty : goal.returns-clause-pop_from_empty
returns-clause-pop_from_empty c = pop_from_empty

pub returns-clause-saved_array : goal.returns-clause-saved_array
returns-clause-saved_array c = array_saved

pub returns-clause-last_action : goal.returns-clause-last_action
returns-clause-last_action c = last_action

pub returns-clause-open_reversal : goal.returns-clause-open_reversal
returns-clause-open_reversal c = open_reversal

pub returns-clause-events : goal.returns-clause-events
returns-clause-events c = events_in_order

pub returns-clause-chosen_tangents : goal.returns-clause-chosen_tangents
returns-clause-chosen_tangents c = chosen_tangents

pub returns-clause-shapes_told : goal.returns-clause-shapes_told
returns-clause-shapes_told c = shapes_told
