use Rattle.std.proofs.Common.{refl}
use Rattle.std.specs.Int.{int_wrap}
use Rattle.adj_revolve.specs.Binomial.{choose}
use Rattle.adj_revolve.specs.Schedule.{body}
use Rattle.adj_revolve.specs.Split.{first_repetition, repetitions, split_of}
use Rattle.def_meaning.specs.Run.{most_tests}
use Rattle.law_examples.proofs.reversals.worked_reversals.Goals as goal

pub returns-clause-no_step : goal.returns-clause-no_step
unfolding int_wrap most_tests body split_of repetitions first_repetition choose
returns-clause-no_step c = refl

pub returns-clause-one_step : goal.returns-clause-one_step
unfolding int_wrap most_tests body split_of repetitions first_repetition choose
returns-clause-one_step c = refl

pub returns-clause-two_steps : goal.returns-clause-two_steps
unfolding int_wrap most_tests body split_of repetitions first_repetition choose
returns-clause-two_steps c = refl

pub returns-clause-three_steps : goal.returns-clause-three_steps
unfolding int_wrap most_tests body split_of repetitions first_repetition choose
returns-clause-three_steps c = refl

pub returns-clause-two_snapshots : goal.returns-clause-two_snapshots
unfolding int_wrap most_tests body split_of repetitions first_repetition choose
returns-clause-two_snapshots c = refl

pub returns-clause-five_steps : goal.returns-clause-five_steps
unfolding int_wrap most_tests body split_of repetitions first_repetition choose
returns-clause-five_steps c = refl

pub returns-clause-one_in_one : goal.returns-clause-one_in_one
unfolding int_wrap most_tests body split_of repetitions first_repetition choose
returns-clause-one_in_one c = refl

pub returns-clause-schedule_in_schedule : goal.returns-clause-schedule_in_schedule
unfolding int_wrap most_tests body split_of repetitions first_repetition choose
returns-clause-schedule_in_schedule c = refl

pub returns-clause-read_by_steps : goal.returns-clause-read_by_steps
unfolding int_wrap most_tests body split_of repetitions first_repetition choose
returns-clause-read_by_steps c = refl
