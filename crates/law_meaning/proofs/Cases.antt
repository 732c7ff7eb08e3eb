-- The corner cases run as they were worked out by hand.
use Rattle.std.proofs.Common.{refl}
use Rattle.std.specs.Int.{int_wrap}
use Rattle.adj_revolve.specs.Binomial.{choose}
use Rattle.adj_revolve.specs.Split.{first_repetition, repetitions, split_of}
use Rattle.adj_revolve.specs.Schedule.{body}
use Rattle.def_meaning.specs.Run.{most_tests}
use Rattle.law_meaning.specs.Cases.{EachRelation, SignsCompared, ConditionsJoined, RowsAndColumns, ExtentsThatFit, EachAction, NoOtherAction, EndsOfReversals, LongLoops, NoTurn, OtherTangents, PoppedInPart, PowerOfVariable, ExponentsThatTrap, PowersDuring, LastTests, CountsInForce}

pub each_relation : EachRelation
unfolding int_wrap
each_relation = ((refl, refl, refl), (refl, refl, refl), (refl, refl, refl), (refl, refl, refl), (refl, refl, refl), (refl, refl, refl))

pub signs_compared : SignsCompared
unfolding int_wrap
signs_compared = (refl, refl, refl)

pub conditions_joined : ConditionsJoined
unfolding int_wrap
conditions_joined = (refl, refl, refl, refl, refl, refl, refl, refl, refl)

pub rows_and_columns : RowsAndColumns
unfolding int_wrap
rows_and_columns = (refl, refl, refl, refl, refl, refl, refl, refl)

pub extents_that_fit : ExtentsThatFit
unfolding int_wrap
extents_that_fit = (refl, refl, refl, refl, refl, refl, refl, refl, refl, refl, refl, refl)

pub each_action : EachAction
unfolding int_wrap choose first_repetition repetitions split_of body
each_action = (refl, refl, refl, refl, refl, refl, refl, refl)

pub no_other_action : NoOtherAction
unfolding int_wrap choose first_repetition repetitions split_of body
no_other_action = (refl, refl, refl, refl, refl)

pub ends_of_reversals : EndsOfReversals
unfolding int_wrap
ends_of_reversals = (refl, refl, refl, refl, refl, refl, refl)

pub long_loops : LongLoops
unfolding int_wrap
long_loops = (refl, refl, refl, refl, refl, refl, refl)

pub no_turn : NoTurn
unfolding int_wrap
no_turn = refl

pub other_tangents : OtherTangents
unfolding int_wrap
other_tangents = (refl, refl, refl, refl, refl, refl, refl)

pub popped_in_part : PoppedInPart
unfolding int_wrap
popped_in_part = refl

pub power_of_variable : PowerOfVariable
unfolding int_wrap
power_of_variable = (refl, refl, refl, refl, refl, refl)

pub exponents_that_trap : ExponentsThatTrap
unfolding int_wrap
exponents_that_trap = (refl, refl, refl, refl)

pub powers_during : PowersDuring
unfolding int_wrap most_tests
powers_during = (refl, refl, refl, refl, refl, refl)

pub last_tests : LastTests
unfolding int_wrap most_tests
last_tests = (refl, refl, refl, refl, refl)

pub counts_in_force : CountsInForce
unfolding int_wrap
counts_in_force = (refl, refl, refl, refl, refl)
