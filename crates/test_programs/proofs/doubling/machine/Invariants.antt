-- Each slot so far is that of a scalar.
use Rattle.std.proofs.Common.{ℕ, ℤ, ◌≤◌, ◌<◌, ◌-◌, length, get_or}
use Rattle.adj_interp_frame.specs.declared.slot.Slot.{Slot}
use Rattle.adj_interp_frame.specs.Framed.{IsSlot}
use Rattle.test_programs.proofs.doubling.machine.Given as goal

abbrev pub invariant-each : goal.invariant-each
invariant-each l = record {
  most : length l.slots.items ≤ length l.names;
  sized : (i : ℕ) (d : Slot ℤ) → i < length l.slots.items → IsSlot (get_or l.slots.items i d);
}

abbrev pub decreases-each : goal.decreases-each
decreases-each l = length l.names - length l.slots.items
