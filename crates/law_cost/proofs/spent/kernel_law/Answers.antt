-- Each law is a lemma.
use Rattle.law_cost.proofs.KernelSpending.{kernel_keeps_bound, kernel_keeps_split_bound, round_bound_is_kept, round_split_bound_is_kept}
use Rattle.law_cost.proofs.spent.kernel_law.Goals as goal

pub returns-clause-keeps : goal.returns-clause-keeps
returns-clause-keeps c = kernel_keeps_bound

pub returns-clause-keeps_split : goal.returns-clause-keeps_split
returns-clause-keeps_split c = kernel_keeps_split_bound

pub returns-clause-round : goal.returns-clause-round
returns-clause-round c = round_bound_is_kept

pub returns-clause-round_split : goal.returns-clause-round_split
returns-clause-round_split c = round_split_bound_is_kept
