-- The edges passed that lead to nodes with the flag are made.
use Rattle.std.proofs.Common.{◌≡◌, ◌++◌, drop}
use Rattle.adj_tangent.specs.Known.{leading}
use Rattle.adj_tangent.proofs.found.leading.Given as goal

abbrev pub invariant-loop-edge : goal.invariant-loop-edge
invariant-loop-edge l = l.made.items ++ leading l.flags l.flag (drop l.edge-index l.edges) ≡ leading l.flags l.flag l.edges
