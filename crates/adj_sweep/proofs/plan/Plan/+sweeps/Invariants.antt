-- The sweeps of the statements before those that are left are made.
use Rattle.std.proofs.Common.{◌≤◌, ℕ, List}
use Rattle.adj_tree.specs.declared.stmt.Stmts.{size-Stmts}
use Rattle.adj_tree.specs.View.{code_of}
use Rattle.def_names.specs.Numbers.{Vars}
use Rattle.def_sweep.specs.Plan.{Callee}
use Rattle.adj_sweep.specs.Callees.{KnowsAll}
use Rattle.adj_sweep.specs.Plans.{naming_in, plan_of, schedules_of}
use Rattle.adj_sweep.proofs.Passed.{Passed}
use Rattle.adj_sweep.proofs.plan.Plan.+sweeps.Given as goal

abbrev pub invariant-list-loop-current : goal.invariant-list-loop-current
invariant-list-loop-current l = record {
  no_deeper : size-Stmts l.current ≤ size-Stmts l.initial.current;
  passed : (callees : List ℕ → Callee) (reads : List ℕ → Vars) → KnowsAll l.self.callees.now callees reads → Passed (schedules_of l.self reads) (naming_in l.self) (plan_of l.self callees) l.depth l.number (code_of l.body) (code_of l.fn.rest) (code_of l.current) l.made;
}
