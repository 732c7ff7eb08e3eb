-- What is searched stays the same, and has fewer steps to do with.
use Rattle.std.proofs.Common.{◌≡◌}
use Rattle.adj_revolve_count.specs.Rows.{IsSought, sought, search_steps}
use Rattle.adj_revolve_count.proofs.search.found.Given as goal

abbrev pub invariant-each : goal.invariant-each
invariant-each l = record {
  sound : IsSought l.search;
  same : sought l.search ≡ sought l.fn.start;
}

abbrev pub decreases-each : goal.decreases-each
decreases-each l = search_steps l.search
