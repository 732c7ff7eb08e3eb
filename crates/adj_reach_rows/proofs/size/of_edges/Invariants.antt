-- The rows of the ends of the edges passed are no greater.
use Rattle.std.proofs.Common.{◌≤◌, ◌/◌, All, take}
use Rattle.adj_reach_rows.proofs.size.of_edges.Given as goal

abbrev pub invariant-loop-edge : goal.invariant-loop-edge
invariant-loop-edge l = All (λ e. (e.0 / l.width ≤ l.greatest) × (e.1 / l.width ≤ l.greatest)) (take l.edge-index l.edges)
