use Rattle.law_examples.proofs.Sharing.{in_order, turned_fails}
use Rattle.law_examples.proofs.runs.sharing_cases.Goals as goal

pub returns-clause-in_order : goal.returns-clause-in_order
returns-clause-in_order c = in_order

pub returns-clause-turned : goal.returns-clause-turned
returns-clause-turned c = turned_fails
