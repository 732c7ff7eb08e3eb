-- The names passed come before those that are left.
use Rattle.std.proofs.Common.{◌≡◌, ◌++◌}
use Rattle.adj_tree.specs.View.{terms_of}
use Rattle.def_sweep.specs.Plan.{names_of}
use Rattle.adj_tangent.proofs.calls.names_of.Given as goal

abbrev pub invariant-loop-current : goal.invariant-loop-current
invariant-loop-current l = l.made.items ++ names_of (terms_of l.current) ≡ names_of (terms_of l.actuals)
