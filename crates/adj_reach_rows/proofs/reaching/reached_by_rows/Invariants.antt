use Rattle.std.proofs.Common.{◌≡◌, ◌+◌, length, vec_len}
use Rattle.adj_reach_rows.specs.Searches.{left_in}
use Rattle.adj_reach_rows.proofs.Searching.{Searching}
use Rattle.adj_reach_rows.proofs.reaching.reached_by_rows.Given as goal

abbrev pub invariant-loop-row : goal.invariant-loop-row
invariant-loop-row l = record {
  searching : Searching l.width l.rows l.arcs l.edges l.start l.count l.search;
  size : vec_len l.taken ≡ l.rows.words;
}

-- each turn takes a row that waits, and a row waits again only where more is seen
abbrev pub decreases-loop-row : goal.decreases-loop-row
decreases-loop-row l = left_in l.search.seen.items + length l.search.waiting.items
