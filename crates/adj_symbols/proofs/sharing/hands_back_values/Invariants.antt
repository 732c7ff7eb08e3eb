-- The actuals that are left tell.
use Rattle.std.proofs.Common.{◌≡◌, drop}
use Rattle.adj_tree.specs.View.{terms_of}
use Rattle.def_names.specs.WriteFaults.{hands_back_values}
use Rattle.adj_symbols.proofs.sharing.hands_back_values.Given as goal

abbrev pub invariant-loop-is_written : goal.invariant-loop-is_written
invariant-loop-is_written l = hands_back_values (drop l.is_written-index l.row) (terms_of l.rest) ≡ hands_back_values l.row (terms_of l.actuals)
