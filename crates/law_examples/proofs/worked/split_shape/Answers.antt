use Rattle.law_examples.proofs.SplitShape.{units, checkpointed_fails}
use Rattle.law_examples.proofs.worked.split_shape.Goals as goal

pub returns-clause-units : goal.returns-clause-units
returns-clause-units c = units

pub returns-clause-checkpointed : goal.returns-clause-checkpointed
returns-clause-checkpointed c = checkpointed_fails
