use Rattle.law_shape.proofs.Program.{emitted_has_shape}
use Rattle.law_shape.proofs.shape_law.Goals as goal

pub returns : goal.returns
returns c = emitted_has_shape
