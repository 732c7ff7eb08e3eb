-- Dropping a list goes on with what is left of it.
use Rattle.std.proofs.Common.{◌≤◌}
use Rattle.adj_tree.specs.declared.expr.Exprs.{size-Exprs}
use Rattle.adj_tree.proofs.expr.+expr.Given as goal

abbrev pub invariant-Exprs::drop-loop-self : goal.invariant-Exprs::drop-loop-self
invariant-Exprs::drop-loop-self l = size-Exprs l.self ≤ size-Exprs l.initial.self
