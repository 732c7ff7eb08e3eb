use Rattle.law_planned.proofs.Unmarked.{kernel_unmarked}
use Rattle.law_planned.proofs.unmarked_law.Goals as goal

pub returns : goal.returns
returns c = kernel_unmarked
