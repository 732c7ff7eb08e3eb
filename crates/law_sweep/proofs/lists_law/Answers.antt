use Rattle.law_sweep.proofs.Units.{lists_transpose}
use Rattle.law_sweep.proofs.lists_law.Goals as goal

pub returns : goal.returns
returns c = lists_transpose
