-- The statements passed are cut; a list comes between a statement and those in it.
use Rattle.std.proofs.Common.{◌≡◌, ◌≤◌, ◌+◌, ◌*◌, ℕ, List}
use Rattle.adj_tree.specs.Code.{Procedure}
use Rattle.adj_tree.specs.View.{code_of}
use Rattle.adj_tree.specs.declared.stmt.Stmt.{size-Stmt}
use Rattle.adj_tree.specs.declared.stmt.Stmts.{size-Stmts}
use Rattle.def_kernel.specs.Stepped.{marked_in, cut}
use Rattle.adj_norm_statement.specs.Steps.{Leaves}
use Rattle.adj_norm.specs.Source.{Knows}
use Rattle.adj_norm.proofs.cutting.+cuts.Given as goal

abbrev pub decreases-cut_statement : goal.decreases-cut_statement
decreases-cut_statement l = 3 * size-Stmt l.stmt.now

abbrev pub decreases-cut_body : goal.decreases-cut_body
decreases-cut_body l = 3 * size-Stmts l.body.now + 2

abbrev pub decreases-cut : goal.decreases-cut
decreases-cut l = 3 * size-Stmts l.code.now + 1

abbrev pub decreases-cut_onto : goal.decreases-cut_onto
decreases-cut_onto l = 3 * size-Stmts l.code.now

abbrev pub invariant-cut_onto-loop-current : goal.invariant-cut_onto-loop-current
invariant-cut_onto-loop-current l = record {
  no_deeper : size-Stmts l.current ≤ size-Stmts l.initial.current;
  next : l.next + marked_in (code_of l.current) ≡ l.first + marked_in (code_of l.code);
  written : (taken : List (List ℕ)) (u : Procedure) → Knows l.source taken u → Leaves l.fn.out.items (cut taken u l.first (code_of l.code)) l.out.items (cut taken u l.next (code_of l.current));
}
