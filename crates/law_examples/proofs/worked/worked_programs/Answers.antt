use Rattle.std.proofs.Common.{refl}
use Rattle.law_examples.proofs.worked.worked_programs.Goals as goal

pub returns-clause-array_sum : goal.returns-clause-array_sum
returns-clause-array_sum c = refl

pub returns-clause-branch : goal.returns-clause-branch
returns-clause-branch c = refl

pub returns-clause-called : goal.returns-clause-called
returns-clause-called c = refl

pub returns-clause-do_while : goal.returns-clause-do_while
returns-clause-do_while c = refl

pub returns-clause-power : goal.returns-clause-power
returns-clause-power c = refl
