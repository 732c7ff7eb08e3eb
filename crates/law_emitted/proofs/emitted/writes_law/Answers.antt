use Rattle.law_emitted.proofs.WriteFaults.{writes_have_none}
use Rattle.law_emitted.proofs.emitted.writes_law.Goals as goal

pub returns : goal.returns
returns c = writes_have_none
