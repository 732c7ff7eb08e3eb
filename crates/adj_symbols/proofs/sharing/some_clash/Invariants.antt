-- The actuals passed, and whether one that is left clashes with them or with one behind it.
use Rattle.std.proofs.Common.{◌≡◌, drop}
use Rattle.adj_tree.specs.View.{terms_of, procedure_of}
use Rattle.adj_symbols.specs.Sharing.{tests_of, some_meets}
use Rattle.adj_symbols.proofs.sharing.some_clash.Given as goal

abbrev pub invariant-loop-is_written : goal.invariant-loop-is_written
invariant-loop-is_written l = some_meets (procedure_of l.caller) (tests_of l.known) (drop l.is_written-index l.row) (terms_of l.rest) ≡ some_meets (procedure_of l.caller) (tests_of l.initial.known) l.row (terms_of l.actuals)
