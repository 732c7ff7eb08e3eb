-- What was laid out and what is left are the lines of the statement.
use Rattle.std.proofs.Common.{◌≡◌, ◌++◌, length}
use Rattle.def_text.specs.Text.{laid, statement}
use Rattle.adj_print.proofs.layout.push_statement.Given as goal

abbrev pub invariant-loop-rest : goal.invariant-loop-rest
invariant-loop-rest l = l.out.items ++ laid 0 l.rest ≡ l.fn.out.items ++ statement l.chars

abbrev pub decreases-loop-rest : goal.decreases-loop-rest
decreases-loop-rest l = length l.rest
