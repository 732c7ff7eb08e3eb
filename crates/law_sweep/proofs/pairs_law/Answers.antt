use Rattle.law_sweep.proofs.Units.{pairs_transpose, calls_split}
use Rattle.law_sweep.proofs.pairs_law.Goals as goal

pub returns-clause-lists : goal.returns-clause-lists
returns-clause-lists c = pairs_transpose

pub returns-clause-calls : goal.returns-clause-calls
returns-clause-calls c = calls_split
