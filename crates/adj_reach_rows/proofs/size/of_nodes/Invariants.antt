-- The rows of the nodes passed are no greater.
use Rattle.std.proofs.Common.{◌≤◌, ◌/◌, All, take}
use Rattle.adj_reach_rows.proofs.size.of_nodes.Given as goal

abbrev pub invariant-loop-node : goal.invariant-loop-node
invariant-loop-node l = All (λ x. x / l.width ≤ l.greatest) (take l.node-index l.nodes)
