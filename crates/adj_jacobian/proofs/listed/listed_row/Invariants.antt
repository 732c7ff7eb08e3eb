-- The columns so far.
use Rattle.std.proofs.Common.{◌≡◌, take}
use Rattle.adj_jacobian.proofs.listed.listed_row.Given as goal

abbrev pub invariant-loop-number : goal.invariant-loop-number
invariant-loop-number l = l.columns ≡ take l.number-index l.numbers
