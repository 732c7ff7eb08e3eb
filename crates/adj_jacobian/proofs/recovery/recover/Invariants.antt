-- The entries so far, and what is still to come.
use Rattle.std.proofs.Common.{◌≡◌, ◌++◌, map, drop}
use Rattle.def_jacobian.specs.Recovered.{entries, found}
use Rattle.adj_jacobian_groups.specs.View.{rows_of}
use Rattle.adj_jacobian.specs.Products.{entry_of, tangent_in}
use Rattle.adj_jacobian.proofs.recovery.recover.Given as goal

abbrev pub invariant-loop-i : goal.invariant-loop-i
invariant-loop-i l = map entry_of l.all.items ++ entries (found l.groups (tangent_in l.products)) (rows_of (drop l.i l.rows)) l.i ≡ entries (found l.groups (tangent_in l.products)) (rows_of l.rows) 0
