-- The dummies passed, and those that are left.
use Rattle.std.proofs.Common.{◌≡◌, ◌+◌, ◌++◌, drop}
use Rattle.adj_tree.specs.View.{terms_of}
use Rattle.adj_symbols_writes.specs.Graph.{placed_of, actual_edges}
use Rattle.adj_symbols_writes.proofs.links.add_actuals.Given as goal

abbrev pub invariant-loop-dummy : goal.invariant-loop-dummy
invariant-loop-dummy l = record {
  passed : l.node ≡ l.called.first + l._dummy-index;
  so_far : l.out.items ++ actual_edges (placed_of l.dummies) l.node (drop l._dummy-index l._dummy-items) (terms_of l.rest) ≡ l.initial.out.items ++ actual_edges (placed_of l.dummies) l.called.first l.called.unit.dummies (terms_of l.actuals);
}
