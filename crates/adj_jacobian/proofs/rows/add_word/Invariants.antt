-- The columns so far.
use Rattle.std.proofs.Common.{◌≡◌, ◌++◌}
use Rattle.adj_jacobian.specs.Parts.{bits_from}
use Rattle.adj_jacobian.proofs.rows.add_word.Given as goal

abbrev pub invariant-loop-i : goal.invariant-loop-i
invariant-loop-i l = l.columns ≡ l.fn.columns ++ bits_from l.word l.first l.i
