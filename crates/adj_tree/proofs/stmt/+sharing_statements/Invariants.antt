-- What was made is the first part of the list, turned round.
use Rattle.std.proofs.Common.{◌≡◌, suc, ◌*◌, ◌≤◌}
use Rattle.adj_tree.specs.declared.stmt.Stmts.{size-Stmts}
use Rattle.adj_tree.specs.View.{code_of}
use Rattle.adj_tree.specs.Listed.{code_turned}
use Rattle.adj_tree.proofs.stmt.+sharing_statements.Given as goal

abbrev pub decreases-Act::share : goal.decreases-Act::share
decreases-Act::share l = 2 * goal.size-Act::share l

abbrev pub decreases-Stmts::share : goal.decreases-Stmts::share
decreases-Stmts::share l = suc (2 * goal.size-Stmts::share l)

abbrev pub decreases-Stmts::shared : goal.decreases-Stmts::shared
decreases-Stmts::shared l = 2 * goal.size-Stmts::shared l

abbrev pub invariant-Stmts::shared-loop-self : goal.invariant-Stmts::shared-loop-self
invariant-Stmts::shared-loop-self l = record {
  no_deeper : size-Stmts l.self ≤ size-Stmts l.initial.self;
  same : code_turned (code_of l.made) (code_of l.self) ≡ code_of l.fn.self;
}
