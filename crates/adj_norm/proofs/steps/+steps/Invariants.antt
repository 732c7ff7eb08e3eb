-- The step units of the statements passed are there.
use Rattle.std.proofs.Common.{◌≡◌, ◌≤◌, ◌+◌, ◌*◌, ◌++◌, map, ℕ, List}
use Rattle.adj_tree.specs.Code.{Procedure}
use Rattle.adj_tree.specs.View.{code_of, procedure_of}
use Rattle.adj_tree.specs.declared.stmt.Stmt.{size-Stmt}
use Rattle.adj_tree.specs.declared.stmt.Stmts.{size-Stmts}
use Rattle.def_kernel.specs.Stepped.{marked_in, step_units_in}
use Rattle.adj_norm.specs.Source.{Knows}
use Rattle.adj_norm.proofs.steps.+steps.Given as goal

abbrev pub decreases-add_of_statement : goal.decreases-add_of_statement
decreases-add_of_statement l = 2 * size-Stmt l.stmt.now

abbrev pub decreases-add_of_loop : goal.decreases-add_of_loop
decreases-add_of_loop l = 2 * size-Stmts l.body.now + 1

abbrev pub decreases-add_step_units : goal.decreases-add_step_units
decreases-add_step_units l = 2 * size-Stmts l.code.now

abbrev pub invariant-add_step_units-loop-current : goal.invariant-add_step_units-loop-current
invariant-add_step_units-loop-current l = record {
  no_deeper : size-Stmts l.current ≤ size-Stmts l.initial.current;
  next : l.next + marked_in (code_of l.current) ≡ l.first + marked_in (code_of l.code);
  made : (taken : List (List ℕ)) (u : Procedure) → Knows l.source taken u → map procedure_of l.units.items ++ step_units_in taken u l.next (code_of l.current) ≡ map procedure_of l.fn.units.items ++ step_units_in taken u l.first (code_of l.code);
}
