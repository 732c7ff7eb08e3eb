-- The pairs of the dummies passed, and those that are left.
use Rattle.std.proofs.Common.{◌≡◌, ◌++◌, map, drop}
use Rattle.adj_tree.specs.View.{terms_of}
use Rattle.def_flow.specs.Problem.{bound}
use Rattle.adj_flow.specs.Pairs.{pair_of}
use Rattle.adj_flow.proofs.actuals.pairs.Given as goal

abbrev pub invariant-loop-dummy : goal.invariant-loop-dummy
invariant-loop-dummy l = map pair_of l.pairs.items ++ bound (drop l.dummy-index l.dummies) (terms_of l.rest) ≡ bound l.dummies (terms_of l.actuals)
