-- The schedules and their numbers are computed.
use Rattle.std.proofs.Common.{refl}
use Rattle.adj_revolve.specs.Binomial.{choose}
use Rattle.adj_revolve.specs.LeastCost.{greatest_up_to, least_cost}
use Rattle.adj_revolve.specs.Schedule.{body}
use Rattle.adj_revolve.specs.Split.{first_repetition, repetitions, split_of}
use Rattle.law_examples.specs.Schedules.{BinomialNumbers, Splits, WholeSchedules, Costs}

pub binomial_numbers : BinomialNumbers
unfolding choose greatest_up_to least_cost body first_repetition repetitions split_of
binomial_numbers = (refl, refl, refl, refl, refl, refl, refl, refl, refl, refl, refl, refl)

pub splits : Splits
unfolding choose greatest_up_to least_cost body first_repetition repetitions split_of
splits = (refl, refl, refl, refl, refl, refl, refl, refl, refl, refl, refl, refl, refl, refl, refl)

pub whole_schedules : WholeSchedules
unfolding choose greatest_up_to least_cost body first_repetition repetitions split_of
whole_schedules = (refl, refl, refl, refl, refl, refl, refl, refl, refl, refl, refl, refl, refl)

pub costs : Costs
unfolding choose greatest_up_to least_cost body first_repetition repetitions split_of
costs = (refl, refl, refl, refl, refl, refl, refl, refl, refl, refl, refl, refl, refl, refl, refl, refl, refl, refl, refl, refl, refl)
