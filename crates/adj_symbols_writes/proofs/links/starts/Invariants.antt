-- The starts of the units passed, and of those that are left.
use Rattle.std.proofs.Common.{◌≡◌, ◌++◌, map, drop}
use Rattle.adj_symbols_writes.specs.Graph.{placed_of, starts}
use Rattle.adj_symbols_writes.specs.Names.{direct}
use Rattle.adj_symbols_writes.proofs.links.starts.Given as goal

abbrev pub invariant-loop-dummies : goal.invariant-loop-dummies
invariant-loop-dummies l = l.starts.items ++ starts (direct l.side) (map placed_of (drop l.dummies-index l.units)) ≡ starts (direct l.side) (map placed_of l.units)
