use Rattle.law_limits.proofs.KernelNesting.{kernel_nesting}
use Rattle.law_limits.proofs.KernelDepths.{kernel_depths}
use Rattle.law_limits.proofs.limits.kernel_law.Goals as goal

pub returns : goal.returns
returns c = record { nesting = kernel_nesting; depth = kernel_depths }
