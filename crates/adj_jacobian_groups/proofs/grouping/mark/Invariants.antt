use Rattle.std.proofs.Common.{take}
use Rattle.adj_jacobian_groups.specs.Listed.{any_in}
use Rattle.adj_jacobian_groups.proofs.Marking.{Stamped}
use Rattle.adj_jacobian_groups.proofs.grouping.mark.Given as goal

-- the groups of the columns so far are stamped
abbrev pub invariant-loop-column : goal.invariant-loop-column
invariant-loop-column l = Stamped (any_in l.groups (take l.column-index l.columns)) l.stamp l.fn.stamps l.stamps
