use Rattle.law_emitted.proofs.ChainFaults.{chains_have_none}
use Rattle.law_emitted.proofs.emitted.chains_law.Goals as goal

pub returns : goal.returns
returns c = chains_have_none
