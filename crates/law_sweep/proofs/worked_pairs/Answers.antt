use Rattle.std.proofs.Common.{refl}
use Rattle.law_sweep.proofs.worked_pairs.Goals as goal

pub returns-clause-names : goal.returns-clause-names
returns-clause-names c = refl

pub returns-clause-call_forward : goal.returns-clause-call_forward
returns-clause-call_forward c = refl

pub returns-clause-call_backward : goal.returns-clause-call_backward
returns-clause-call_backward c = refl

pub returns-clause-unit_forward : goal.returns-clause-unit_forward
returns-clause-unit_forward c = refl

pub returns-clause-unit_backward : goal.returns-clause-unit_backward
returns-clause-unit_backward c = refl
