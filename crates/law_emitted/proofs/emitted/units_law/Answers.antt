use Rattle.law_emitted.proofs.UnitFaults.{units_have_none}
use Rattle.law_emitted.proofs.emitted.units_law.Goals as goal

pub returns : goal.returns
returns c = units_have_none
