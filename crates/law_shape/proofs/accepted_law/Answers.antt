use Rattle.law_shape.proofs.Accepted.{accepted_has_shape}
use Rattle.law_shape.proofs.accepted_law.Goals as goal

pub returns : goal.returns
returns c = accepted_has_shape
