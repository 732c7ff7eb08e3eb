-- None of the edges passed climbs.
use Rattle.std.proofs.Common.{◌≤◌}
use Rattle.std.specs.Prelude.{slice_index}
use Rattle.adj_symbols.proofs.Members.{AllBefore}
use Rattle.adj_symbols.proofs.graph.are_sinking.Given as goal

abbrev pub invariant-loop-edge : goal.invariant-loop-edge
invariant-loop-edge l = AllBefore (λ e. slice_index l.labels e.1 ≤ slice_index l.labels e.0) l.edges l.edge-index
