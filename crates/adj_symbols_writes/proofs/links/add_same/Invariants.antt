-- The dummies passed, and those that are left.
use Rattle.std.proofs.Common.{◌≡◌, ◌+◌, ◌++◌, drop}
use Rattle.adj_symbols_writes.specs.Graph.{placed_of, same_edges}
use Rattle.adj_symbols_writes.proofs.links.add_same.Given as goal

abbrev pub invariant-loop-name : goal.invariant-loop-name
invariant-loop-name l = record {
  passed : l.node ≡ l.dummies.first + l.name-index;
  so_far : l.out.items ++ same_edges (placed_of l.dummies) l.node (drop l.name-index l.name-items) ≡ l.initial.out.items ++ same_edges (placed_of l.dummies) l.dummies.first l.dummies.unit.dummies;
}
