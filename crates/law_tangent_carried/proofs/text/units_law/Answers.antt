use Rattle.law_tangent_carried.proofs.UnitFaults.{units_have_none}
use Rattle.law_tangent_carried.proofs.text.units_law.Goals as goal

pub returns : goal.returns
returns c = units_have_none
