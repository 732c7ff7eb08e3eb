-- Those passed, turned, and those that are left.
use Rattle.std.proofs.Common.{◌≡◌, ◌++◌, map, drop}
use Rattle.adj_reach_rows.specs.Against.{turned_edge}
use Rattle.adj_reach_rows.proofs.turning.turned_edges.Given as goal

abbrev pub invariant-loop-edge : goal.invariant-loop-edge
invariant-loop-edge l = l.turned.items ++ map turned_edge (drop l.edge-index l.edges) ≡ map turned_edge l.edges
