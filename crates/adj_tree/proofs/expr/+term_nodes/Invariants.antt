-- The nodes of a list are those counted so far and those of what is left of it.
use Rattle.std.proofs.Common.{◌≡◌, ◌+◌, ◌≤◌}
use Rattle.adj_tree.specs.declared.expr.Exprs.{size-Exprs}
use Rattle.adj_tree.specs.View.{terms_of}
use Rattle.adj_tree.specs.Size.{capped_u64, terms_nodes}
use Rattle.adj_tree.proofs.expr.+term_nodes.Given as goal

abbrev pub invariant-Exprs::nodes-loop-current : goal.invariant-Exprs::nodes-loop-current
invariant-Exprs::nodes-loop-current l = record {
  no_deeper : size-Exprs l.current ≤ size-Exprs l.initial.current;
  counted : capped_u64 (l.total + terms_nodes (terms_of l.current)) ≡ capped_u64 (terms_nodes (terms_of l.self));
  stands_still : capped_u64 l.total ≡ l.total;
}
