use Rattle.law_examples.proofs.Schedules.{binomial_numbers, splits, whole_schedules, costs}
use Rattle.law_examples.proofs.runs.schedule_cases.Goals as goal

pub returns-clause-numbers : goal.returns-clause-numbers
returns-clause-numbers c = binomial_numbers

pub returns-clause-splits : goal.returns-clause-splits
returns-clause-splits c = splits

pub returns-clause-schedules : goal.returns-clause-schedules
returns-clause-schedules c = whole_schedules

pub returns-clause-costs : goal.returns-clause-costs
returns-clause-costs c = costs
