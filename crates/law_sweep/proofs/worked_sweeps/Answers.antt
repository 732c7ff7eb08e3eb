use Rattle.std.proofs.Common.{refl}
use Rattle.law_sweep.proofs.worked_sweeps.Goals as goal

pub returns-clause-loop_forward : goal.returns-clause-loop_forward
returns-clause-loop_forward c = refl

pub returns-clause-loop_backward : goal.returns-clause-loop_backward
returns-clause-loop_backward c = refl

pub returns-clause-call_forward : goal.returns-clause-call_forward
returns-clause-call_forward c = refl

pub returns-clause-call_backward : goal.returns-clause-call_backward
returns-clause-call_backward c = refl

pub returns-clause-names : goal.returns-clause-names
returns-clause-names c = refl

pub returns-clause-branch_forward : goal.returns-clause-branch_forward
returns-clause-branch_forward c = refl

pub returns-clause-branch_backward : goal.returns-clause-branch_backward
returns-clause-branch_backward c = refl

pub returns-clause-while_forward : goal.returns-clause-while_forward
returns-clause-while_forward c = refl

pub returns-clause-while_backward : goal.returns-clause-while_backward
returns-clause-while_backward c = refl

pub returns-clause-power_backward : goal.returns-clause-power_backward
returns-clause-power_backward c = refl
