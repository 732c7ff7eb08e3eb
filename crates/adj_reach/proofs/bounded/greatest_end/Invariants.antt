-- The ends of the edges passed are no greater.
use Rattle.std.proofs.Common.{◌≤◌, All, take}
use Rattle.adj_reach.proofs.bounded.greatest_end.Given as goal

abbrev pub invariant-loop-edge : goal.invariant-loop-edge
invariant-loop-edge l = All (λ e. (e.0 ≤ l.greatest) × (e.1 ≤ l.greatest)) (take l.edge-index l.edges)
