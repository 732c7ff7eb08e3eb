-- The slots so far.
use Rattle.std.proofs.Common.{◌≡◌, map, take}
use Rattle.adj_interp.specs.Dually.{dual_slots}
use Rattle.adj_interp.specs.Inputs.{entry_seen}
use Rattle.adj_interp.proofs.dual.slots_of.Given as goal

abbrev pub invariant-loop-i : goal.invariant-loop-i
invariant-loop-i l = map entry_seen l.slots.items ≡ dual_slots (take l.i l.input) (take l.i l.tangents)
