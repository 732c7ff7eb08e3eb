-- The entries so far, and what is still to come.
use Rattle.std.proofs.Common.{◌≡◌, ◌++◌, map, drop}
use Rattle.def_jacobian.specs.Recovered.{entries_of_row, found}
use Rattle.adj_jacobian_groups.specs.View.{place_of}
use Rattle.adj_jacobian.specs.Products.{entry_of, tangent_in}
use Rattle.adj_jacobian.proofs.recovery.add_row.Given as goal

abbrev pub invariant-loop-column : goal.invariant-loop-column
invariant-loop-column l =
    map entry_of l.all.items ++ entries_of_row (found l.groups (tangent_in l.products)) l.number (place_of l.row.at) (drop l.column-index l.column-items)
    ≡ map entry_of l.fn.all.items ++ entries_of_row (found l.groups (tangent_in l.products)) l.number (place_of l.row.at) l.column-items
