-- Turning what is left onto what was made turns the whole.
use Rattle.std.proofs.Common.{◌≡◌}
use Rattle.adj_tree.specs.View.{code_of}
use Rattle.adj_tree.specs.Listed.{code_turned}
use Rattle.adj_tree.proofs.stmt.Stmts.turned_onto.Given as goal

abbrev pub invariant-loop-self : goal.invariant-loop-self
invariant-loop-self l = code_turned (code_of l.self) (code_of l.made) ≡ code_turned (code_of l.fn.self) (code_of l.fn.rest)
