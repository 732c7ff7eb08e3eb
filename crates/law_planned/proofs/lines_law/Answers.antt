use Rattle.law_planned.proofs.ReadLines.{read_apart}
use Rattle.law_planned.proofs.lines_law.Goals as goal

pub returns : goal.returns
returns c = read_apart
