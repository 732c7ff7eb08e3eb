use Rattle.law_planned.proofs.MarkedLines.{kernel_apart}
use Rattle.law_planned.proofs.marks_law.Goals as goal

pub returns : goal.returns
returns c = kernel_apart
