-- Each edge that was chosen is one of the edges, between nodes of one label.
use Rattle.std.proofs.Common.{◌≡◌}
use Rattle.std.specs.Prelude.{slice_index}
use Rattle.std.specs.List.{All, Contains}
use Rattle.adj_reach.specs.Edges.{AreBelow}
use Rattle.adj_symbols.proofs.graph.inside.Given as goal

abbrev pub invariant-loop-edge : goal.invariant-loop-edge
invariant-loop-edge l = record {
  below : AreBelow l.nodes l.chosen.items;
  same : All (λ e. slice_index l.labels e.0 ≡ slice_index l.labels e.1) l.chosen.items;
  within : All (Contains l.edges) l.chosen.items;
}
