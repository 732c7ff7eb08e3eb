-- The units passed, and those that are left.
use Rattle.std.proofs.Common.{◌≡◌, ◌++◌, map, drop}
use Rattle.adj_reach.specs.Edges.{flag}
use Rattle.adj_symbols_writes.specs.Graph.{placed_of, row}
use Rattle.adj_symbols_writes.proofs.sets.rows.Given as goal

abbrev pub invariant-loop-dummies : goal.invariant-loop-dummies
invariant-loop-dummies l = l.rows.items ++ map (row (flag l.flags)) (map placed_of (drop l.dummies-index l.units)) ≡ map (row (flag l.flags)) (map placed_of l.units)
