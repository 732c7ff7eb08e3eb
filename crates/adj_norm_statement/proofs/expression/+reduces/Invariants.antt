-- Terms get smaller; two operands come between a term and each of them.
use Rattle.std.proofs.Common.{◌+◌, ◌*◌, max}
use Rattle.adj_tree.specs.declared.expr.Expr.{size-Expr}
use Rattle.adj_norm_statement.proofs.expression.+reduces.Given as goal

abbrev pub decreases-reduce : goal.decreases-reduce
decreases-reduce l = 2 * size-Expr l.e.now

abbrev pub decreases-reduce_both : goal.decreases-reduce_both
decreases-reduce_both l = 2 * max (size-Expr l.a.now) (size-Expr l.b.now) + 1
