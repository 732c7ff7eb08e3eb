-- Each law is a lemma.
use Rattle.law_cost.proofs.ProgramSpending.{emitted_spends, bound_is_within}
use Rattle.law_cost.proofs.spent.spent_law.Goals as goal

pub returns-clause-emitted : goal.returns-clause-emitted
returns-clause-emitted c = emitted_spends

pub returns-clause-within : goal.returns-clause-within
returns-clause-within c = bound_is_within
