-- The pushes of the actuals passed, and then those of the actuals that are left.
use Rattle.std.proofs.Common.{◌≡◌, ℕ, List, drop}
use Rattle.adj_tree.specs.View.{code_of}
use Rattle.def_meaning.specs.Append.{◌+++◌}
use Rattle.def_sweep.specs.Plan.{Callee}
use Rattle.def_sweep.specs.Rows.{pushes}
use Rattle.adj_sweep_assignment.specs.View.{marks_of}
use Rattle.adj_sweep.specs.Actuals.{is_in, chosen}
use Rattle.adj_sweep.specs.Plans.{plan_of}
use Rattle.adj_sweep.specs.Swept.{in_order}
use Rattle.adj_sweep.proofs.plan.Plan.pushes.Given as goal

abbrev pub invariant-loop-actual : goal.invariant-loop-actual
invariant-loop-actual l =
    (callees : List ℕ → Callee) →
    in_order (code_of l.code) +++ pushes (plan_of l.self callees) l.line (chosen (is_in ((marks_of l.self.marks.now).saved l.number) l.group) (drop l.actual-index l.actuals))
    ≡ in_order (code_of l.fn.turned) +++ pushes (plan_of l.self callees) l.line (chosen (is_in ((marks_of l.self.marks.now).saved l.number) l.group) l.actuals)
