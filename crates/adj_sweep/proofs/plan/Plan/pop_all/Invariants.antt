-- The pops of the variables that are left, and then those of the variables passed.
use Rattle.std.proofs.Common.{◌≡◌, ℕ, List, drop}
use Rattle.adj_tree.specs.View.{code_of}
use Rattle.def_meaning.specs.Append.{◌+++◌}
use Rattle.def_sweep.specs.Plan.{Callee}
use Rattle.def_sweep.specs.Rows.{pops}
use Rattle.adj_sweep.specs.Plans.{plan_of}
use Rattle.adj_sweep.proofs.plan.Plan.pop_all.Given as goal

abbrev pub invariant-loop-x : goal.invariant-loop-x
invariant-loop-x l =
    (callees : List ℕ → Callee) → pops (plan_of l.self callees) l.line (drop l.x-index l.names) +++ code_of l.code ≡ pops (plan_of l.self callees) l.line l.names +++ code_of l.fn.rest
