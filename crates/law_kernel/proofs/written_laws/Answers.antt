-- Each law is a lemma.
use Rattle.law_kernel.proofs.WrittenKernels.{kernel_written}
use Rattle.law_kernel.proofs.StepsWritten.{whole_kernel_written}
use Rattle.law_kernel.proofs.written_laws.Goals as goal

pub returns-clause-kernel : goal.returns-clause-kernel
returns-clause-kernel c = whole_kernel_written

pub returns-clause-lowered : goal.returns-clause-lowered
returns-clause-lowered c = kernel_written
