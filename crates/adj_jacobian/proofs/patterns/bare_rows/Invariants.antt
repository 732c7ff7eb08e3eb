-- The rows so far, and what is still to come.
use Rattle.std.proofs.Common.{◌≡◌, ◌++◌, map, drop}
use Rattle.adj_jacobian_groups.specs.View.{place_of, rows_of}
use Rattle.adj_jacobian.specs.Parts.{bare}
use Rattle.adj_jacobian.proofs.patterns.bare_rows.Given as goal

abbrev pub invariant-loop-at : goal.invariant-loop-at
invariant-loop-at l = rows_of l.rows.items ++ bare (map place_of (drop l.at-index l.cells)) ≡ bare (map place_of l.cells)
