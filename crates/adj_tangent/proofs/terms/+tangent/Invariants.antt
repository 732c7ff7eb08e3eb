-- Terms get smaller; what is done with operands comes between a term and each of them.
use Rattle.std.proofs.Common.{◌+◌, ◌*◌, max}
use Rattle.adj_tree.specs.declared.expr.Expr.{size-Expr}
use Rattle.adj_tangent.proofs.terms.+tangent.Given as goal

abbrev pub decreases-term_tangent : goal.decreases-term_tangent
decreases-term_tangent l = 2 * size-Expr l.e.now

abbrev pub decreases-negation_tangent : goal.decreases-negation_tangent
decreases-negation_tangent l = 2 * size-Expr l.a.now + 1

abbrev pub decreases-sum_tangent : goal.decreases-sum_tangent
decreases-sum_tangent l = 2 * max (size-Expr l.a.now) (size-Expr l.b.now) + 1

abbrev pub decreases-difference_tangent : goal.decreases-difference_tangent
decreases-difference_tangent l = 2 * max (size-Expr l.a.now) (size-Expr l.b.now) + 1

abbrev pub decreases-product_tangent : goal.decreases-product_tangent
decreases-product_tangent l = 2 * max (size-Expr l.a.now) (size-Expr l.b.now) + 1

abbrev pub decreases-power_tangent : goal.decreases-power_tangent
decreases-power_tangent l = 2 * size-Expr l.a.now + 1

abbrev pub decreases-exponent_tangent : goal.decreases-exponent_tangent
decreases-exponent_tangent l = 2 * size-Expr l.a.now + 1
