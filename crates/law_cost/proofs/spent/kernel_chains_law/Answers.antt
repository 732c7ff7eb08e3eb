-- The law is a lemma.
use Rattle.law_cost.proofs.KernelChains.{kernel_chains_counted}
use Rattle.law_cost.proofs.spent.kernel_chains_law.Goals as goal

pub returns : goal.returns
returns c = kernel_chains_counted
