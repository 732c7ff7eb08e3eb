-- What the first words carry is seen.
use Rattle.adj_reach_rows.specs.Searches.{Grown, IsCarried}
use Rattle.adj_reach_rows.proofs.search.Search.carry.Given as goal

abbrev pub invariant-loop-place : goal.invariant-loop-place
invariant-loop-place l = Grown (IsCarried l.initial.self.words l.taken l.rows l.arc l.place) l.initial.self l.self
