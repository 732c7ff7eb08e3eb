-- The names in the statements left are still to be added.
use Rattle.std.proofs.Common.{◌≡◌, ◌≤◌}
use Rattle.adj_tree.specs.View.{code_of}
use Rattle.adj_tree.specs.declared.stmt.Stmts.{size-Stmts}
use Rattle.def_kernel.specs.Kernel.{names_in_code}
use Rattle.adj_sets.specs.Sets.{all_added}
use Rattle.adj_norm.proofs.names.+statements.Given as goal

abbrev pub invariant-add_code-loop-current : goal.invariant-add_code-loop-current
invariant-add_code-loop-current l = record {
  no_deeper : size-Stmts l.current ≤ size-Stmts l.initial.current;
  left : all_added l.names (names_in_code (code_of l.current)) ≡ all_added l.fn.names (names_in_code (code_of l.code));
}
