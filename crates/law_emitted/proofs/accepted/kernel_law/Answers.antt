use Rattle.law_emitted.proofs.Kernels.{kernel_checked}
use Rattle.law_emitted.proofs.accepted.kernel_law.Goals as goal

pub returns : goal.returns
returns c = kernel_checked
