-- The names passed, and those that are left.
use Rattle.std.proofs.Common.{◌≡◌, ◌++◌, drop}
use Rattle.adj_symbols_writes.specs.Graph.{placed_of, nodes_of}
use Rattle.adj_symbols_writes.specs.View.{names_seen}
use Rattle.adj_symbols_writes.proofs.links.add_nodes.Given as goal

abbrev pub invariant-loop-name : goal.invariant-loop-name
invariant-loop-name l = l.out.items ++ nodes_of (placed_of l.dummies) (names_seen (drop l.name-index l.names)) ≡ l.initial.out.items ++ nodes_of (placed_of l.dummies) (names_seen l.names)
