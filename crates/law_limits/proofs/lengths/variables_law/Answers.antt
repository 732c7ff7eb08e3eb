use Rattle.law_limits.proofs.KernelLengths.{kernel_variables_short, locals_few}
use Rattle.law_limits.proofs.lengths.variables_law.Goals as goal

pub returns : goal.returns
returns c = record { short = kernel_variables_short; locals = locals_few }
