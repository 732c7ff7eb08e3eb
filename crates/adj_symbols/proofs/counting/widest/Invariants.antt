-- The greatest number so far, and those of the lists that are left.
use Rattle.std.proofs.Common.{◌≡◌, drop}
use Rattle.std.specs.Prelude.{max}
use Rattle.adj_symbols.specs.Numbers.{widest}
use Rattle.adj_symbols.proofs.counting.widest.Given as goal

abbrev pub invariant-loop-names : goal.invariant-loop-names
invariant-loop-names l = max l.width (widest (drop l.names-index l.lists)) ≡ widest l.lists
