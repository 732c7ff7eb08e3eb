use Rattle.law_tangent_carried.proofs.ChainFaults.{chains_have_none}
use Rattle.law_tangent_carried.proofs.text.chains_law.Goals as goal

pub returns : goal.returns
returns c = chains_have_none
