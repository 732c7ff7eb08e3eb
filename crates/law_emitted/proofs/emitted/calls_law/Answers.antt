use Rattle.law_emitted.proofs.CallFaults.{calls_have_none}
use Rattle.law_emitted.proofs.emitted.calls_law.Goals as goal

pub returns : goal.returns
returns c = calls_have_none
