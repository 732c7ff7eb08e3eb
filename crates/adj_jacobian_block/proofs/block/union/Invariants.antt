-- The words so far.
use Rattle.std.proofs.Common.{◌≡◌, ℕ, ◌<◌, length, get_or, bit_or}
use Rattle.adj_jacobian_block.proofs.block.union.Given as goal

abbrev pub invariant-loop-i : goal.invariant-loop-i
invariant-loop-i l = (length l.all ≡ 4) × ((k : ℕ) → k < l.i → get_or l.all k 0 ≡ bit_or (get_or l.first k 0) (get_or l.second k 0))
