-- The statements passed are lowered; a list comes between a statement and those in it.
use Rattle.std.proofs.Common.{◌≡◌, ◌≤◌, ◌+◌, ◌*◌, max}
use Rattle.adj_tree.specs.View.{code_of}
use Rattle.adj_tree.specs.declared.stmt.Stmt.{size-Stmt}
use Rattle.adj_tree.specs.declared.stmt.Stmts.{size-Stmts}
use Rattle.def_kernel.specs.Lowered.{lowered, locals_of}
use Rattle.adj_norm_statement.specs.Handed.{handed_by}
use Rattle.adj_norm_statement.specs.Locals.{local_by}
use Rattle.adj_norm_statement.specs.Steps.{Leaves}
use Rattle.adj_norm_statement.proofs.statement.+lowers.Given as goal

abbrev pub decreases-lower_statement : goal.decreases-lower_statement
decreases-lower_statement l = 2 * size-Stmt l.stmt.now

abbrev pub decreases-lower : goal.decreases-lower
decreases-lower l = 2 * size-Stmts l.code.now + 1

abbrev pub decreases-lower_onto : goal.decreases-lower_onto
decreases-lower_onto l = 2 * size-Stmts l.code.now

abbrev pub invariant-lower_onto-loop-current : goal.invariant-lower_onto-loop-current
invariant-lower_onto-loop-current l = record {
  no_deeper : size-Stmts l.current ≤ size-Stmts l.initial.current;
  most : max l.most (locals_of (local_by l.fn.locals) (handed_by l.handed) (code_of l.current)) ≡ locals_of (local_by l.fn.locals) (handed_by l.handed) (code_of l.code);
  steps : Leaves l.fn.steps.items (lowered (local_by l.fn.locals) (handed_by l.handed) (code_of l.code)) l.steps.items (lowered (local_by l.fn.locals) (handed_by l.handed) (code_of l.current));
  locals : local_by l.locals ≡ local_by l.fn.locals;
}
