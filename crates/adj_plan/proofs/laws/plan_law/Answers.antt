use Rattle.adj_plan.proofs.Saying.{told}
use Rattle.adj_plan.proofs.laws.plan_law.Goals as goal

pub returns : goal.returns
returns c = told
