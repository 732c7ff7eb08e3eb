use Rattle.law_tangent_carried.proofs.WriteFaults.{writes_have_none}
use Rattle.law_tangent_carried.proofs.text.writes_law.Goals as goal

pub returns : goal.returns
returns c = writes_have_none
