-- What was made is the first part of the list, turned round.
use Rattle.std.proofs.Common.{◌≡◌, suc, ◌*◌, ◌≤◌}
use Rattle.adj_tree.specs.declared.expr.Exprs.{size-Exprs}
use Rattle.adj_tree.specs.View.{terms_of}
use Rattle.adj_tree.specs.Listed.{terms_turned}
use Rattle.adj_tree.proofs.expr.+sharing.Given as goal

abbrev pub decreases-Expr::share : goal.decreases-Expr::share
decreases-Expr::share l = 2 * goal.size-Expr::share l

abbrev pub decreases-Exprs::share : goal.decreases-Exprs::share
decreases-Exprs::share l = suc (2 * goal.size-Exprs::share l)

abbrev pub decreases-Exprs::shared : goal.decreases-Exprs::shared
decreases-Exprs::shared l = 2 * goal.size-Exprs::shared l

abbrev pub invariant-Exprs::shared-loop-self : goal.invariant-Exprs::shared-loop-self
invariant-Exprs::shared-loop-self l = record {
  no_deeper : size-Exprs l.self ≤ size-Exprs l.initial.self;
  same : terms_turned (terms_of l.made) (terms_of l.self) ≡ terms_of l.fn.self;
}
