-- Each law is a lemma.
use Rattle.law_cost.proofs.Costs.{runs_cost, emitted_costs}
use Rattle.law_cost.proofs.cost.run_laws.Goals as goal

pub returns-clause-units : goal.returns-clause-units
returns-clause-units c = runs_cost

pub returns-clause-emitted : goal.returns-clause-emitted
returns-clause-emitted c = emitted_costs
