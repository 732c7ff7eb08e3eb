-- The dummies passed, and those that are left.
use Rattle.std.proofs.Common.{◌≡◌, ◌+◌, ◌++◌, length, drop}
use Rattle.adj_reach.specs.Edges.{flag}
use Rattle.adj_symbols_writes.specs.Graph.{placed_of, bits, row}
use Rattle.adj_symbols_writes.proofs.sets.row.Given as goal

abbrev pub invariant-loop-dummy : goal.invariant-loop-dummy
invariant-loop-dummy l = record {
  passed : l.node ≡ l.dummies.first + l._dummy-index;
  so_far : l.row.items ++ bits (flag l.flags) l.node (length (drop l._dummy-index l._dummy-items)) ≡ row (flag l.flags) (placed_of l.dummies);
}
