-- Terms get smaller; what is done with operands comes between a term and each of them.
use Rattle.std.proofs.Common.{◌+◌, ◌*◌, max}
use Rattle.adj_tree.specs.declared.expr.Expr.{size-Expr}
use Rattle.adj_sweep_assignment.proofs.site.Site.+apart.Given as goal

abbrev pub decreases-apart : goal.decreases-apart
decreases-apart l = 2 * size-Expr l.e.now

abbrev pub decreases-sum_apart : goal.decreases-sum_apart
decreases-sum_apart l = 2 * max (size-Expr l.a.now) (size-Expr l.b.now) + 1

abbrev pub decreases-difference_apart : goal.decreases-difference_apart
decreases-difference_apart l = 2 * max (size-Expr l.a.now) (size-Expr l.b.now) + 1

abbrev pub decreases-product_apart : goal.decreases-product_apart
decreases-product_apart l = 2 * max (size-Expr l.a.now) (size-Expr l.b.now) + 1

abbrev pub decreases-power_apart : goal.decreases-power_apart
decreases-power_apart l = 2 * size-Expr l.a.now + 1

abbrev pub decreases-power_by_apart : goal.decreases-power_by_apart
decreases-power_by_apart l = 2 * size-Expr l.a.now + 1
