use Rattle.std.proofs.Common.{take}
use Rattle.adj_jacobian_groups.specs.View.{columns_of_rows}
use Rattle.adj_jacobian_groups.specs.Listed.{ListRows}
use Rattle.adj_jacobian_groups.proofs.lists.rows_of_columns.Given as goal

-- the rows so far are listed
abbrev pub invariant-loop-number : goal.invariant-loop-number
invariant-loop-number l = ListRows (take l.number (columns_of_rows l.rows)) l.fn.columns l.lists
