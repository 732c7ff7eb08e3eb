-- The number so far is that of the first statement that is left.
use Rattle.std.proofs.Common.{◌≡◌, ◌≤◌}
use Rattle.adj_tree.specs.declared.stmt.Stmts.{size-Stmts}
use Rattle.adj_tree.specs.View.{code_of}
use Rattle.def_names.specs.Numbers.{behind}
use Rattle.adj_weave_units.proofs.numbers.+numbers.Given as goal

abbrev pub invariant-behind-loop-current : goal.invariant-behind-loop-current
invariant-behind-loop-current l = record {
  no_deeper : size-Stmts l.current ≤ size-Stmts l.initial.current;
  so_far : behind l.number (code_of l.current) ≡ behind l.first (code_of l.list);
}
