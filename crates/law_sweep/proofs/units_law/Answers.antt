use Rattle.law_sweep.proofs.Units.{units_transpose}
use Rattle.law_sweep.proofs.units_law.Goals as goal

pub returns : goal.returns
returns c = units_transpose
