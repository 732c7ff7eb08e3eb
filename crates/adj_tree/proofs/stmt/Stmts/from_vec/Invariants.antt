-- What is left in the vector comes before what was made.
use Rattle.std.proofs.Common.{◌≡◌, map, vec_len}
use Rattle.adj_tree.specs.View.{code_of}
use Rattle.adj_tree.specs.Listed.{code_onto, code_listed, statement_of}
use Rattle.adj_tree.proofs.stmt.Stmts.from_vec.Given as goal

abbrev pub invariant-loop-last : goal.invariant-loop-last
invariant-loop-last l = code_onto (map statement_of l.stmts.items) (code_of l.all) ≡ code_listed (map statement_of l.fn.stmts.items)

abbrev pub decreases-loop-last : goal.decreases-loop-last
decreases-loop-last l = vec_len l.stmts
