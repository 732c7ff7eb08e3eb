-- What was added and what is left are the variables that are read in the actuals.
use Rattle.std.proofs.Common.{◌≡◌, [], ◌++◌}
use Rattle.adj_tree.specs.View.{terms_of}
use Rattle.def_names.specs.VariableLists.{read_in_actuals}
use Rattle.adj_symbols_writes.specs.View.{vars_seen}
use Rattle.adj_symbols_writes.proofs.variables.add_others.Given as goal

abbrev pub invariant-loop-rest : goal.invariant-loop-rest
invariant-loop-rest l = vars_seen l.out.items ++ read_in_actuals [] (terms_of l.rest) ≡ vars_seen l.initial.out.items ++ read_in_actuals [] (terms_of l.actuals)
