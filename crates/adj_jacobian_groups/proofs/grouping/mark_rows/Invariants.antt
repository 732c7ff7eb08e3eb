use Rattle.std.proofs.Common.{take}
use Rattle.adj_jacobian_groups.specs.View.{columns_of_rows}
use Rattle.adj_jacobian_groups.specs.Listed.{any_row_in}
use Rattle.adj_jacobian_groups.proofs.Marking.{Stamped}
use Rattle.adj_jacobian_groups.proofs.grouping.mark_rows.Given as goal

-- the groups of the columns of the rows so far are stamped
abbrev pub invariant-loop-number : goal.invariant-loop-number
invariant-loop-number l = Stamped (any_row_in l.groups (columns_of_rows l.rows) (take l.number-index l.numbers)) l.stamp l.fn.stamps l.stamps
