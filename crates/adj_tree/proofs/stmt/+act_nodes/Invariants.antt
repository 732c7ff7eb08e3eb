-- The nodes of a list are those counted so far and those of what is left of it.
use Rattle.std.proofs.Common.{◌≡◌, ◌+◌, ◌≤◌}
use Rattle.adj_tree.specs.declared.stmt.Stmts.{size-Stmts}
use Rattle.adj_tree.specs.View.{code_of}
use Rattle.adj_tree.specs.Size.{capped_u64, code_nodes}
use Rattle.adj_tree.proofs.stmt.+act_nodes.Given as goal

abbrev pub invariant-Stmts::nodes-loop-current : goal.invariant-Stmts::nodes-loop-current
invariant-Stmts::nodes-loop-current l = record {
  no_deeper : size-Stmts l.current ≤ size-Stmts l.initial.current;
  counted : capped_u64 (l.total + code_nodes (code_of l.current)) ≡ capped_u64 (code_nodes (code_of l.self));
  stands_still : capped_u64 l.total ≡ l.total;
}
