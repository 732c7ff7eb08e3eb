use Rattle.law_tangent_carried.proofs.CallFaults.{calls_have_none}
use Rattle.law_tangent_carried.proofs.text.calls_law.Goals as goal

pub returns : goal.returns
returns c = calls_have_none
