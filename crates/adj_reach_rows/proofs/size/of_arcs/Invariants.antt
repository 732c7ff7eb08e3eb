-- The points of the arcs passed are no greater.
use Rattle.std.proofs.Common.{◌≤◌, All, take}
use Rattle.adj_reach_rows.proofs.size.of_arcs.Given as goal

abbrev pub invariant-loop-arc : goal.invariant-loop-arc
invariant-loop-arc l = All (λ a. (a.from ≤ l.greatest) × (a.to ≤ l.greatest)) (take l.arc-index l.arcs)
