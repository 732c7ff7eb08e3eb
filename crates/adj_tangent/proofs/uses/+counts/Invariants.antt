-- Terms get smaller; what is done with the operands of products and powers comes between a term and each of them.
use Rattle.std.proofs.Common.{◌+◌, ◌*◌, max}
use Rattle.adj_tree.specs.declared.expr.Expr.{size-Expr}
use Rattle.adj_tangent.proofs.uses.+counts.Given as goal

abbrev pub decreases-counted : goal.decreases-counted
decreases-counted l = 2 * size-Expr l.e.now

abbrev pub decreases-counted_product : goal.decreases-counted_product
decreases-counted_product l = 2 * max (size-Expr l.a.now) (size-Expr l.b.now) + 1

abbrev pub decreases-counted_power : goal.decreases-counted_power
decreases-counted_power l = 2 * size-Expr l.a.now + 1
