-- The marked loops passed are counted.
use Rattle.std.proofs.Common.{◌≡◌, ◌≤◌, ◌+◌}
use Rattle.adj_tree.specs.View.{code_of}
use Rattle.adj_tree.specs.declared.stmt.Stmts.{size-Stmts}
use Rattle.def_kernel.specs.Stepped.{marked_in}
use Rattle.adj_norm.proofs.marked.+marks.Given as goal

abbrev pub invariant-marked_in-loop-current : goal.invariant-marked_in-loop-current
invariant-marked_in-loop-current l = record {
  no_deeper : size-Stmts l.current ≤ size-Stmts l.initial.current;
  counted : l.count + marked_in (code_of l.current) ≡ marked_in (code_of l.code);
}
