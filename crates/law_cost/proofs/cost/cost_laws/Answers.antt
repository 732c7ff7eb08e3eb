-- Each law is a lemma.
use Rattle.law_cost.proofs.Counting.{act_few, list_few, adjoint_few}
use Rattle.law_cost.proofs.Nests.{nest_weight, nest_sweeps}
use Rattle.law_cost.proofs.cost.cost_laws.Goals as goal

pub returns-clause-statements : goal.returns-clause-statements
returns-clause-statements c = act_few

pub returns-clause-lists : goal.returns-clause-lists
returns-clause-lists c = list_few

pub returns-clause-adjoints : goal.returns-clause-adjoints
returns-clause-adjoints c = adjoint_few

pub returns-clause-loops_in_loops : goal.returns-clause-loops_in_loops
returns-clause-loops_in_loops c = λ ps u i d line k x y. (nest_weight x y line k, nest_sweeps x y line ps u i d k)
