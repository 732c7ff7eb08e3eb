-- Runs are computed.
use Rattle.std.proofs.Common.{refl}
use Rattle.std.specs.Int.{int_wrap}
use Rattle.adj_revolve.specs.Binomial.{choose}
use Rattle.adj_revolve.specs.Schedule.{body}
use Rattle.adj_revolve.specs.Split.{first_repetition, repetitions, split_of}
use Rattle.def_meaning.specs.Run.{most_tests}
use Rattle.law_examples.proofs.CostTrials.{idle_fails}
use Rattle.law_examples.proofs.reversals.wrong_costs.Goals as goal

pub returns-clause-own_nodes_alone : goal.returns-clause-own_nodes_alone
unfolding int_wrap most_tests body split_of repetitions first_repetition choose
returns-clause-own_nodes_alone c = refl

pub returns-clause-with_actuals : goal.returns-clause-with_actuals
unfolding int_wrap most_tests body split_of repetitions first_repetition choose
returns-clause-with_actuals c = refl

pub returns-clause-one_repetition_less : goal.returns-clause-one_repetition_less
unfolding int_wrap most_tests body split_of repetitions first_repetition choose
returns-clause-one_repetition_less c = refl

pub returns-clause-with_one : goal.returns-clause-with_one
unfolding int_wrap most_tests body split_of repetitions first_repetition choose
returns-clause-with_one c = refl

pub returns-clause-idle : goal.returns-clause-idle
returns-clause-idle c = idle_fails
