use Rattle.law_tangent.proofs.Units.{units_follow}
use Rattle.law_tangent.proofs.units_follow_law.Goals as goal

pub returns : goal.returns
returns c = units_follow
