-- What was added and what is left are the actuals of dummies that are written.
use Rattle.std.proofs.Common.{◌≡◌, ◌++◌, drop}
use Rattle.adj_tree.specs.View.{terms_of}
use Rattle.def_names.specs.VariableLists.{handed_in_actuals}
use Rattle.adj_symbols_writes.specs.View.{vars_seen}
use Rattle.adj_symbols_writes.proofs.variables.add_handed.Given as goal

abbrev pub invariant-loop-is_written : goal.invariant-loop-is_written
invariant-loop-is_written l = vars_seen l.out.items ++ handed_in_actuals (drop l.is_written-index l.written) (terms_of l.rest) ≡ vars_seen l.initial.out.items ++ handed_in_actuals l.written (terms_of l.actuals)
