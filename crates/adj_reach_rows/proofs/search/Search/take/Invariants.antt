-- The first words of the row are taken.
use Rattle.adj_reach_rows.proofs.Taking.{Taking}
use Rattle.adj_reach_rows.proofs.search.Search.take.Given as goal

abbrev pub invariant-loop-place : goal.invariant-loop-place
invariant-loop-place l = Taking l.row l.place l.initial.self l.self l.taken
