-- The nodes are seen to which the edges behind the place lead.
use Rattle.std.proofs.Common.{◌≡◌, ℕ, ◌<◌, ◌≤◌, ◌-◌, ◌/◌, map, length, get_or}
use Rattle.adj_reach_rows.specs.Searches.{Grown, IsLed}
use Rattle.adj_reach_rows.proofs.search.Search.follow_edges.Given as goal

abbrev pub invariant-loop-rest : goal.invariant-loop-rest
invariant-loop-rest l = record {
  within : l.rest ≤ length l.edges;
  here : 0 < l.rest → get_or (map (λ (e : ℕ × ℕ). e.0 / l.width) l.edges) (l.rest - 1) 0 ≡ l.row;
  grown : Grown (IsLed l.width l.initial.self.words l.taken l.edges l.rest l.row) l.initial.self l.self;
}

abbrev pub decreases-loop-rest : goal.decreases-loop-rest
decreases-loop-rest l = l.rest
