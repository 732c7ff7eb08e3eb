use Rattle.law_sweep.proofs.Reversed.{reversals_turn}
use Rattle.law_sweep.proofs.reversal_law.Goals as goal

pub returns : goal.returns
returns c = reversals_turn
