-- What was made is the first part of the list, turned round.
use Rattle.std.proofs.Common.{◌≡◌, ◌≤◌}
use Rattle.adj_tree.specs.declared.stmt.Stmts.{size-Stmts}
use Rattle.adj_tree.specs.View.{code_of}
use Rattle.adj_tree.specs.Listed.{code_turned}
use Rattle.adj_tree.proofs.stmt.+copying_stmt.Given as goal

abbrev pub invariant-Stmts::copy-loop-current : goal.invariant-Stmts::copy-loop-current
invariant-Stmts::copy-loop-current l = record {
  no_deeper : size-Stmts l.current ≤ size-Stmts l.initial.current;
  same : code_turned (code_of l.made) (code_of l.current) ≡ code_of l.self;
}
