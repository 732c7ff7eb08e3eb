-- What was added and what is left are the lines of the statements.
use Rattle.std.proofs.Common.{◌≡◌, ◌≤◌, ◌++◌}
use Rattle.adj_tree.specs.declared.stmt.Stmts.{size-Stmts}
use Rattle.adj_tree.specs.View.{code_of}
use Rattle.def_text.specs.Text.{code_text}
use Rattle.adj_print.proofs.statement.+push.Given as goal

abbrev pub invariant-push_stmts-loop-current : goal.invariant-push_stmts-loop-current
invariant-push_stmts-loop-current l = record {
  no_deeper : size-Stmts l.current ≤ size-Stmts l.initial.current;
  so_far : l.out.items ++ code_text (code_of l.current) ≡ l.initial.out.items ++ code_text (code_of l.list);
}
