-- Each node that was chosen is the root of its label.
use Rattle.std.proofs.Common.{◌≡◌, ◌<◌}
use Rattle.std.specs.List.{All}
use Rattle.adj_symbols.specs.Graph.{root_at}
use Rattle.adj_symbols.proofs.graph.starts_of.Given as goal

abbrev pub invariant-loop-node : goal.invariant-loop-node
invariant-loop-node l = record {
  below : All (λ x. x < l.nodes) l.starts.items;
  own : All (λ x. root_at l.labels l.roots x ≡ x) l.starts.items;
}
