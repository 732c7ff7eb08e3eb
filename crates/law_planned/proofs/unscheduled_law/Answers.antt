use Rattle.law_planned.proofs.Unscheduled.{nothing_added, none_reversed}
use Rattle.law_planned.proofs.Planned.{is_planned, reversed_spends}
use Rattle.law_planned.proofs.unscheduled_law.Goals as goal

pub returns-clause-same : goal.returns-clause-same
returns-clause-same c = nothing_added

pub returns-clause-kernel : goal.returns-clause-kernel
returns-clause-kernel c = is_planned

pub returns-clause-none_reversed : goal.returns-clause-none_reversed
returns-clause-none_reversed c = none_reversed

pub returns-clause-spends : goal.returns-clause-spends
returns-clause-spends c = reversed_spends
