-- Dropping a list goes on with what is left of it.
use Rattle.std.proofs.Common.{◌≤◌}
use Rattle.adj_tree.specs.declared.stmt.Stmts.{size-Stmts}
use Rattle.adj_tree.proofs.stmt.+stmt.Given as goal

abbrev pub invariant-Stmts::drop-loop-self : goal.invariant-Stmts::drop-loop-self
invariant-Stmts::drop-loop-self l = size-Stmts l.self ≤ size-Stmts l.initial.self
