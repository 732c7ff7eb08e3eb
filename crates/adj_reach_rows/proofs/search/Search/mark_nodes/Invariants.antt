-- The nodes passed are seen.
use Rattle.std.proofs.Common.{◌≡◌, ℕ, take}
use Rattle.std.specs.Prelude.{Contains}
use Rattle.adj_reach_rows.specs.Searches.{Grown, place_of}
use Rattle.adj_reach_rows.proofs.search.Search.mark_nodes.Given as goal

abbrev pub invariant-loop-node : goal.invariant-loop-node
invariant-loop-node l = Grown (λ n. (x : ℕ) × Contains (take l.node-index l.nodes) x × (n ≡ place_of l.width l.initial.self.words x)) l.initial.self l.self
