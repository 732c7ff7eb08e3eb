-- The worked programs run as they were worked out by hand.
use Rattle.std.proofs.Common.{refl}
use Rattle.std.specs.Int.{int_wrap}
use Rattle.adj_revolve.specs.Binomial.{choose}
use Rattle.adj_revolve.specs.Split.{first_repetition, repetitions, split_of}
use Rattle.adj_revolve.specs.Schedule.{body}
use Rattle.law_meaning.specs.Samples.{SquareOfThree, SquareOfLeast, SumOfOneElement, PowersOfTwo, LongSteps, QuotientsAndTraps, CubeByCall, SquaredElement, ArrayPassed, ShapesTold, AdjointOfSquares, PopFromEmpty, ArraySaved, LastAction, OpenReversal, EventsInOrder, ChosenTangents}

pub square_of_three : SquareOfThree
unfolding int_wrap
square_of_three = (refl, refl)

pub square_of_least : SquareOfLeast
unfolding int_wrap
square_of_least = refl

pub sum_of_one_element : SumOfOneElement
unfolding int_wrap
sum_of_one_element = (refl, refl)

pub powers_of_two : PowersOfTwo
unfolding int_wrap
powers_of_two = (refl, refl)

pub long_steps : LongSteps
unfolding int_wrap
long_steps = (refl, refl, refl)

pub quotients_and_traps : QuotientsAndTraps
unfolding int_wrap
quotients_and_traps = (refl, refl, refl, refl)

pub cube_by_call : CubeByCall
unfolding int_wrap
cube_by_call = (refl, refl)

pub squared_element : SquaredElement
unfolding int_wrap
squared_element = refl

pub array_passed : ArrayPassed
unfolding int_wrap
array_passed = (refl, refl, refl)

pub shapes_told : ShapesTold
unfolding int_wrap
shapes_told = refl

pub adjoint_of_squares : AdjointOfSquares
unfolding int_wrap
adjoint_of_squares = (refl, refl, refl, refl)

pub pop_from_empty : PopFromEmpty
unfolding int_wrap
pop_from_empty = (refl, refl)

pub array_saved : ArraySaved
unfolding int_wrap
array_saved = (refl, refl, refl)

pub last_action : LastAction
unfolding int_wrap choose first_repetition repetitions split_of body
last_action = (refl, refl)

pub open_reversal : OpenReversal
unfolding int_wrap
open_reversal = (refl, refl, refl, refl)

pub events_in_order : EventsInOrder
unfolding int_wrap
events_in_order = (refl, refl)

pub chosen_tangents : ChosenTangents
unfolding int_wrap
chosen_tangents = (refl, refl, refl, refl, refl, refl, refl, refl, refl)
