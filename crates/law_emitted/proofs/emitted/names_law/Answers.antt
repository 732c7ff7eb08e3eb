use Rattle.law_emitted.proofs.NameFaults.{names_have_none}
use Rattle.law_emitted.proofs.emitted.names_law.Goals as goal

pub returns : goal.returns
returns c = names_have_none
