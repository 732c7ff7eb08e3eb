-- What is left in the vector comes before what was made.
use Rattle.std.proofs.Common.{◌≡◌, vec_len}
use Rattle.adj_tree.specs.View.{code_of}
use Rattle.adj_tree.specs.Listed.{steps_onto}
use Rattle.adj_sweep_assignment.proofs.step.all_before.Given as goal

abbrev pub invariant-loop-last : goal.invariant-loop-last
invariant-loop-last l = steps_onto l.stmts.items (code_of l.all) ≡ steps_onto l.fn.stmts.items (code_of l.fn.rest)

abbrev pub decreases-loop-last : goal.decreases-loop-last
decreases-loop-last l = vec_len l.stmts
