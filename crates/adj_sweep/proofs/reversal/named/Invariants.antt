-- The names passed come before those that are left.
use Rattle.std.proofs.Common.{◌≡◌, map, drop}
use Rattle.adj_tree.specs.Listed.{terms_onto}
use Rattle.adj_tree.specs.View.{term_of}
use Rattle.def_sweep.specs.Plan.{actuals_named}
use Rattle.adj_sweep.proofs.reversal.named.Given as goal

abbrev pub invariant-loop-name : goal.invariant-loop-name
invariant-loop-name l = terms_onto (map term_of l.made.items) (actuals_named (drop l.name-index l.given)) ≡ actuals_named l.given
