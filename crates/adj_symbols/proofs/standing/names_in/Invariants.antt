-- What was added and what is left are the names in the statements.
use Rattle.std.proofs.Common.{◌≡◌, ◌++◌, drop}
use Rattle.adj_symbols_writes.specs.View.{seen}
use Rattle.adj_symbols.specs.View.{taken_at}
use Rattle.adj_symbols.proofs.standing.names_in.Given as goal

abbrev pub invariant-loop-stmt : goal.invariant-loop-stmt
invariant-loop-stmt l = l.uses ++ taken_at l.takes_runtime (seen (drop l.stmt-index l.stmts)) ≡ taken_at l.takes_runtime (seen l.stmts)
