-- What the statements before those that are left use is counted, and their depths are added.
use Rattle.std.proofs.Common.{◌≤◌, ℕ, List}
use Rattle.adj_tree.specs.declared.stmt.Stmts.{size-Stmts}
use Rattle.adj_tree.specs.View.{code_of}
use Rattle.def_names.specs.Numbers.{Vars}
use Rattle.def_sweep.specs.Plan.{Callee}
use Rattle.adj_sweep.specs.Callees.{KnowsAll}
use Rattle.adj_sweep.specs.Uses.{plan_by, schedules_by}
use Rattle.adj_sweep.proofs.HelpersPassed.{Passed, Deeper}
use Rattle.adj_sweep.proofs.uses.Known.+walk.Given as goal

abbrev pub invariant-list-loop-current : goal.invariant-list-loop-current
invariant-list-loop-current l = record {
  no_deeper : size-Stmts l.current ≤ size-Stmts l.initial.current;
  passed : (arrays : Vars) (callees : List ℕ → Callee) (reads : List ℕ → Vars) → KnowsAll l.self.callees.now callees reads → Passed (schedules_by l.self reads) (plan_by l.self arrays callees) l.depth l.number (code_of l.body) (code_of l.current) l.made;
  deeper : (arrays : Vars) (callees : List ℕ → Callee) (reads : List ℕ → Vars) → KnowsAll l.self.callees.now callees reads → Deeper (schedules_by l.self reads) (plan_by l.self arrays callees) l.depth l.number (code_of l.body) (code_of l.current) l.made.number l.fn.depths l.depths;
}
