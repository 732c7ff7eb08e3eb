-- What was added and what is left are the names in the actuals.
use Rattle.std.proofs.Common.{◌≡◌, ◌++◌}
use Rattle.adj_tree.specs.View.{terms_of}
use Rattle.def_names.specs.Standing.{in_actuals}
use Rattle.adj_symbols.specs.View.{at_line}
use Rattle.adj_symbols.proofs.standing.Uses.add_actuals.Given as goal

abbrev pub invariant-loop-rest : goal.invariant-loop-rest
invariant-loop-rest l = l.self ++ at_line l.line (in_actuals (terms_of l.rest)) ≡ l.initial.self ++ at_line l.line (in_actuals (terms_of l.terms))
