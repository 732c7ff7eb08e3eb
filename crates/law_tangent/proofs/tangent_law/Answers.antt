use Rattle.law_tangent.proofs.Emitting.{emitted_is_tangent}
use Rattle.law_tangent.proofs.tangent_law.Goals as goal

pub returns : goal.returns
returns c = emitted_is_tangent
