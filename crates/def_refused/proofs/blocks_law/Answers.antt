use Rattle.def_refused.proofs.Ending.{blocks_end}
use Rattle.def_refused.proofs.blocks_law.Goals as goal

pub returns : goal.returns
returns c = record { end = blocks_end }
