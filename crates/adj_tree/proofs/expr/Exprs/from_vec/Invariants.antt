-- What is left in the vector comes before what was made.
use Rattle.std.proofs.Common.{◌≡◌, map, vec_len}
use Rattle.adj_tree.specs.View.{term_of, terms_of}
use Rattle.adj_tree.specs.Listed.{terms_onto, terms_listed}
use Rattle.adj_tree.proofs.expr.Exprs.from_vec.Given as goal

abbrev pub invariant-loop-last : goal.invariant-loop-last
invariant-loop-last l = terms_onto (map term_of l.exprs.items) (terms_of l.all) ≡ terms_listed (map term_of l.fn.exprs.items)

abbrev pub decreases-loop-last : goal.decreases-loop-last
decreases-loop-last l = vec_len l.exprs
