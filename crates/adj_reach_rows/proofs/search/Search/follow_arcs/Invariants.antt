-- What the arcs behind the place carry is seen.
use Rattle.std.proofs.Common.{◌≡◌, ◌<◌, ◌≤◌, ◌-◌, map, length, get_or}
use Rattle.adj_reach_rows.specs.declared.arc.Arc.{Arc}
use Rattle.adj_reach_rows.specs.Searches.{Grown, IsFollowed}
use Rattle.adj_reach_rows.proofs.search.Search.follow_arcs.Given as goal

abbrev pub invariant-loop-rest : goal.invariant-loop-rest
invariant-loop-rest l = record {
  within : l.rest ≤ length l.arcs;
  here : 0 < l.rest → get_or (map (λ (a : Arc). a.from) l.arcs) (l.rest - 1) 0 ≡ l.row;
  grown : Grown (IsFollowed l.initial.self.words l.taken l.rows l.arcs l.rest l.row) l.initial.self l.self;
}

abbrev pub decreases-loop-rest : goal.decreases-loop-rest
decreases-loop-rest l = l.rest
