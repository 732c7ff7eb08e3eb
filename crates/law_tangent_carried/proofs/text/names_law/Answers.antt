use Rattle.law_tangent_carried.proofs.NameFaults.{names_have_none}
use Rattle.law_tangent_carried.proofs.text.names_law.Goals as goal

pub returns : goal.returns
returns c = names_have_none
