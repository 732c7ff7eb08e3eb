-- The edges of the units passed, and of those that are left.
use Rattle.std.proofs.Common.{◌≡◌, ◌++◌, map, drop}
use Rattle.adj_symbols_writes.specs.Graph.{placed_of, found_at, edges}
use Rattle.adj_symbols_writes.specs.Table.{value_of}
use Rattle.adj_symbols_writes.proofs.links.edges.Given as goal

abbrev pub invariant-loop-dummies : goal.invariant-loop-dummies
invariant-loop-dummies l = l.edges.items ++ edges (λ x. found_at (map placed_of l.units) (value_of x l.numbers)) (map placed_of (drop l.dummies-index l.units)) ≡ edges (λ x. found_at (map placed_of l.units) (value_of x l.numbers)) (map placed_of l.units)
