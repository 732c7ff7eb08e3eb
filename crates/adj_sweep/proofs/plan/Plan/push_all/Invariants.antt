-- The pushes of the variables passed, and then those of the variables that are left.
use Rattle.std.proofs.Common.{◌≡◌, ℕ, List, drop}
use Rattle.adj_tree.specs.View.{code_of}
use Rattle.def_meaning.specs.Append.{◌+++◌}
use Rattle.def_sweep.specs.Plan.{Callee}
use Rattle.def_sweep.specs.Rows.{pushes}
use Rattle.adj_sweep.specs.Plans.{plan_of}
use Rattle.adj_sweep.specs.Swept.{in_order}
use Rattle.adj_sweep.proofs.plan.Plan.push_all.Given as goal

abbrev pub invariant-loop-x : goal.invariant-loop-x
invariant-loop-x l =
    (callees : List ℕ → Callee) →
    in_order (code_of l.code) +++ pushes (plan_of l.self callees) l.line (drop l.x-index l.names) ≡ in_order (code_of l.fn.turned) +++ pushes (plan_of l.self callees) l.line l.names
