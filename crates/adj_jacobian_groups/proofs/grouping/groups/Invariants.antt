use Rattle.adj_jacobian_groups.specs.View.{columns_of_rows}
use Rattle.adj_jacobian_groups.proofs.Turns.{Grouped}
use Rattle.adj_jacobian_groups.proofs.grouping.groups.Given as goal

-- the columns so far have their groups
abbrev pub invariant-loop-column : goal.invariant-loop-column
invariant-loop-column l = Grouped (columns_of_rows l.fn.pattern.rows) l.columns l.column l.groups.items l.stamps.items l.count
