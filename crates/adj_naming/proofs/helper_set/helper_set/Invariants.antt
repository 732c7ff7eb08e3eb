-- The helpers passed are in the set.
use Rattle.std.proofs.Common.{◌≡◌, ◌++◌, drop}
use Rattle.adj_naming.proofs.helper_set.helper_set.Given as goal

abbrev pub invariant-loop-helper : goal.invariant-loop-helper
invariant-loop-helper l = l.set ++ drop l.helper-index l.helpers ≡ l.helpers
