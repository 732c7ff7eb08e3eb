-- The list is of kernel statements exactly where what is left of it is.
use Rattle.std.proofs.Common.{◌≡◌, ◌≤◌}
use Rattle.adj_tree.specs.View.{code_of}
use Rattle.adj_tree.specs.declared.stmt.Stmts.{size-Stmts}
use Rattle.adj_norm_statement.specs.Form.{is_kernel_code}
use Rattle.adj_norm_statement.proofs.form.+kernel_form.Given as goal

abbrev pub invariant-is_kernel_list-loop-current : goal.invariant-is_kernel_list-loop-current
invariant-is_kernel_list-loop-current l = record {
  no_deeper : size-Stmts l.current ≤ size-Stmts l.initial.current;
  left : is_kernel_code (code_of l.current) ≡ is_kernel_code (code_of l.c);
}
