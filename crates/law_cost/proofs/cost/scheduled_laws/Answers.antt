-- Each law is a lemma.
use Rattle.law_cost.proofs.Bounded.{bound_is_within}
use Rattle.law_cost.proofs.Costs.{scheduled_costs, split_spends}
use Rattle.law_cost.proofs.Spending.{scheduled_spends, read_back_spends, read_back_split}
use Rattle.law_cost.proofs.cost.scheduled_laws.Goals as goal

pub returns-clause-emitted : goal.returns-clause-emitted
returns-clause-emitted c = scheduled_costs

pub returns-clause-spends : goal.returns-clause-spends
returns-clause-spends c = scheduled_spends

pub returns-clause-split_spends : goal.returns-clause-split_spends
returns-clause-split_spends c = split_spends

pub returns-clause-read_back : goal.returns-clause-read_back
returns-clause-read_back c = read_back_spends

pub returns-clause-read_back_split : goal.returns-clause-read_back_split
returns-clause-read_back_split c = read_back_split

pub returns-clause-within : goal.returns-clause-within
returns-clause-within c = bound_is_within
