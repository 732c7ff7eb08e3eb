use Rattle.law_tangent.proofs.Refused.{behind_is_refused}
use Rattle.law_tangent.proofs.wrong_refused.Goals as goal

pub returns : goal.returns
returns c = behind_is_refused
