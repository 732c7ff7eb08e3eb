-- The law is a lemma.
use Rattle.law_cost.proofs.SpentChains.{chains_counted}
use Rattle.law_cost.proofs.spent.chains_law.Goals as goal

pub returns : goal.returns
returns c = chains_counted
