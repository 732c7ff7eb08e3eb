-- Those passed, turned, and those that are left.
use Rattle.std.proofs.Common.{◌≡◌, ◌++◌, map, drop}
use Rattle.adj_reach_rows.specs.Against.{turned_arc}
use Rattle.adj_reach_rows.proofs.turning.turned_arcs.Given as goal

abbrev pub invariant-loop-arc : goal.invariant-loop-arc
invariant-loop-arc l = l.turned.items ++ map turned_arc (drop l.arc-index l.arcs) ≡ map turned_arc l.arcs
