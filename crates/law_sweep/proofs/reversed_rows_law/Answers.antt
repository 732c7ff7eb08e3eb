use Rattle.law_sweep.proofs.ReversedLoops.{reversed_rows_turn}
use Rattle.law_sweep.proofs.reversed_rows_law.Goals as goal

pub returns : goal.returns
returns c = reversed_rows_turn
