use Rattle.law_limits.proofs.StepLengths.{kernel_units_short}
use Rattle.law_limits.proofs.lengths.units_law.Goals as goal

pub returns : goal.returns
returns c = kernel_units_short
