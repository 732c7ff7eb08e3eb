-- The slots so far.
use Rattle.std.proofs.Common.{◌≡◌, take}
use Rattle.adj_jacobian.proofs.compressed.copies.Given as goal

abbrev pub invariant-loop-slot : goal.invariant-loop-slot
invariant-loop-slot l = l.slots.items ≡ take l.slot-index l.values
