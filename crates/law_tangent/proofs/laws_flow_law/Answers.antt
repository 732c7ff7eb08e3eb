use Rattle.law_tangent.proofs.Carrying.{laws_flow}
use Rattle.law_tangent.proofs.laws_flow_law.Goals as goal

pub returns : goal.returns
returns c = laws_flow
