-- The actuals that are left fit the dummies that are left.
use Rattle.std.proofs.Common.{◌≡◌, drop}
use Rattle.adj_tree.specs.View.{terms_of, procedure_of}
use Rattle.def_names.specs.CallFaults.{are_actuals_for}
use Rattle.adj_symbols.proofs.calls.are_actuals_for.Given as goal

abbrev pub invariant-loop-dummy : goal.invariant-loop-dummy
invariant-loop-dummy l = are_actuals_for (procedure_of l.caller) (procedure_of l.called) (drop l.dummy-index l.dummy-items) (terms_of l.rest) ≡ are_actuals_for (procedure_of l.caller) (procedure_of l.called) l.called.dummies (terms_of l.actuals)
