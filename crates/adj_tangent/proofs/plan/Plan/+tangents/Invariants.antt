-- The tangents of the statements passed are written, and then those of what is left; statements and lists get smaller.
use Rattle.std.proofs.Common.{◌≡◌, ◌+◌, ◌*◌, ◌≤◌, ℕ, List}
use Rattle.adj_tree.specs.Code.{Code}
use Rattle.adj_tree.specs.Listed.{steps_onto}
use Rattle.adj_tree.specs.View.{code_of}
use Rattle.adj_tree.specs.declared.stmt.Stmt.{size-Stmt}
use Rattle.adj_tree.specs.declared.stmt.Stmts.{size-Stmts}
use Rattle.def_meaning.specs.Append.{◌+++◌}
use Rattle.def_meaning.specs.Rename.{rename}
use Rattle.def_tangent.specs.Forward.{Callee, tangents}
use Rattle.adj_tangent.specs.Plans.{naming_in, plan_of, KnowsAll}
use Rattle.adj_tangent.proofs.plan.Plan.+tangents.Given as goal

abbrev pub invariant-push_list-loop-current : goal.invariant-push_list-loop-current
invariant-push_list-loop-current l = record {
  no_deeper : size-Stmts l.current ≤ size-Stmts l.initial.current;
  passed : (callees : List ℕ → Callee) → KnowsAll l.self.callees.now callees → (rest : Code) →
      steps_onto l.steps.items (rename (naming_in l.self) (tangents (plan_of l.self callees) (code_of l.current)) +++ rest) ≡ steps_onto l.fn.steps.items (rename (naming_in l.self) (tangents (plan_of l.self callees) (code_of l.list)) +++ rest);
}

abbrev pub decreases-push_act : goal.decreases-push_act
decreases-push_act l = 3 * size-Stmt l.stmt.now

abbrev pub decreases-push_statement : goal.decreases-push_statement
decreases-push_statement l = 3 * size-Stmt l.stmt.now + 1

abbrev pub decreases-push_list : goal.decreases-push_list
decreases-push_list l = 3 * size-Stmts l.list.now

abbrev pub decreases-list : goal.decreases-list
decreases-list l = 3 * size-Stmts l.list.now + 1
