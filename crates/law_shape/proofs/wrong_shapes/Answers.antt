use Rattle.law_shape.proofs.Worked.{not_all_kept, not_pushing_more, not_pushing_helpers, not_twice_forward}
use Rattle.law_shape.proofs.wrong_shapes.Goals as goal

pub returns-clause-keeping_all : goal.returns-clause-keeping_all
returns-clause-keeping_all c = not_all_kept

pub returns-clause-pushing_more : goal.returns-clause-pushing_more
returns-clause-pushing_more c = not_pushing_more

pub returns-clause-pushing_helpers : goal.returns-clause-pushing_helpers
returns-clause-pushing_helpers c = not_pushing_helpers

pub returns-clause-twice_forward : goal.returns-clause-twice_forward
returns-clause-twice_forward c = not_twice_forward
