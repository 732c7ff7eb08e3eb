-- The numbers passed are no greater.
use Rattle.std.proofs.Common.{◌≤◌, All, take}
use Rattle.adj_reach.proofs.bounded.greatest.Given as goal

abbrev pub invariant-loop-number : goal.invariant-loop-number
invariant-loop-number l = All (λ n. n ≤ l.greatest) (take l.number-index l.numbers)
