-- The pairs of the dummies passed, and those that are left.
use Rattle.std.proofs.Common.{◌≡◌, ◌++◌, map, drop}
use Rattle.adj_tree.specs.View.{terms_of}
use Rattle.adj_tbr.specs.Bound.{passed_of, bound_from}
use Rattle.adj_tbr.proofs.bound.bounds.Given as goal

abbrev pub invariant-loop-place : goal.invariant-loop-place
invariant-loop-place l = map passed_of l.bounds.items ++ bound_from l.place (drop l.place l.dummies) (terms_of l.rest) ≡ bound_from 0 l.dummies (terms_of l.actuals)
