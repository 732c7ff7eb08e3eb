use Rattle.law_shape.proofs.Reversed.{reversed_so, reversed_shaped, dropped_so, numbered_so, numbered_shaped}
use Rattle.law_shape.proofs.worked_reversal.Goals as goal

pub returns-clause-emitted : goal.returns-clause-emitted
returns-clause-emitted c = reversed_so

pub returns-clause-shaped : goal.returns-clause-shaped
returns-clause-shaped c = reversed_shaped

pub returns-clause-dropped : goal.returns-clause-dropped
returns-clause-dropped c = dropped_so

pub returns-clause-numbered : goal.returns-clause-numbered
returns-clause-numbered c = numbered_so

pub returns-clause-numbered_shaped : goal.returns-clause-numbered_shaped
returns-clause-numbered_shaped c = numbered_shaped
