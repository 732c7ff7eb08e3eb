use Rattle.std.proofs.Common.{refl}
use Rattle.std.specs.Int.{int_wrap}
use Rattle.adj_revolve.specs.Binomial.{choose}
use Rattle.adj_revolve.specs.Schedule.{body}
use Rattle.adj_revolve.specs.Split.{first_repetition, repetitions, split_of}
use Rattle.def_meaning.specs.Run.{most_tests}
use Rattle.law_examples.proofs.reversals.worked_numbers.Goals as goal

pub returns-clause-none : goal.returns-clause-none
unfolding int_wrap most_tests body split_of repetitions first_repetition choose
returns-clause-none c = refl

pub returns-clause-three : goal.returns-clause-three
unfolding int_wrap most_tests body split_of repetitions first_repetition choose
returns-clause-three c = refl

pub returns-clause-many : goal.returns-clause-many
unfolding int_wrap most_tests body split_of repetitions first_repetition choose
returns-clause-many c = refl

pub returns-clause-changed : goal.returns-clause-changed
unfolding int_wrap most_tests body split_of repetitions first_repetition choose
returns-clause-changed c = refl

pub returns-clause-two_loops : goal.returns-clause-two_loops
unfolding int_wrap most_tests body split_of repetitions first_repetition choose
returns-clause-two_loops c = refl
