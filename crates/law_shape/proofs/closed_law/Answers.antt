use Rattle.law_shape.proofs.Analysed.{full_are_closed, analysed_are_closed}
use Rattle.law_shape.proofs.closed_law.Goals as goal

pub returns-clause-full : goal.returns-clause-full
returns-clause-full c = full_are_closed

pub returns-clause-analysed : goal.returns-clause-analysed
returns-clause-analysed c = analysed_are_closed
