-- Turning what is left onto what was made turns the whole.
use Rattle.std.proofs.Common.{◌≡◌}
use Rattle.adj_tree.specs.Code.{none}
use Rattle.adj_tree.specs.View.{terms_of}
use Rattle.adj_tree.specs.Listed.{terms_turned}
use Rattle.adj_tree.proofs.expr.Exprs.turned.Given as goal

abbrev pub invariant-loop-self : goal.invariant-loop-self
invariant-loop-self l = terms_turned (terms_of l.self) (terms_of l.made) ≡ terms_turned (terms_of l.fn.self) none
