-- The slots of the entry so far are filled, the others stand as they stood, and so do the variables that lent nothing.
use Rattle.std.proofs.Common.{◌≡◌, ◌≤◌, ◌<◌, ℕ, [], length, get_or}
use Rattle.adj_interp_frame.specs.declared.slot.Slot.{Slot}
use Rattle.adj_interp_frame.specs.declared.routine.Routine.{Routine}
use Rattle.adj_interp_frame.specs.Framed.{slot_shape}
use Rattle.adj_interp_frame.specs.Lent.{AreLent, IsFilled}
use Rattle.adj_interp_frame.proofs.Borrowing.{IsGone}
use Rattle.adj_interp_frame.proofs.frame.Frame.lend.Given as goal

abbrev pub invariant-loop-i : goal.invariant-loop-i
invariant-loop-i g l = record {
  names : l.self.names.now ≡ l.initial.self.names.now;
  count : length l.self.slots.items ≡ length l.initial.self.slots.items;
  shapes : (k : ℕ) (d : Slot _) → slot_shape (get_or l.self.slots.items k d) ≡ slot_shape (get_or l.initial.self.slots.items k d);
  many : length l.slots ≡ length l.initial.slots;
  rest : (j : ℕ) (d : Slot _) → l.i ≤ j → get_or l.slots j d ≡ get_or l.initial.slots j d;
  kept : (k : ℕ) (d : Slot _) → ((get_or l.self.slots.items k d).cells.items ≡ [] → ⊥) → get_or l.self.slots.items k d ≡ get_or l.initial.self.slots.items k d;
  gone : (r : Routine) → AreLent r l.actuals l.initial.slots → (k : ℕ) (d : Slot _) → k < length l.initial.self.slots.items → (get_or l.self.slots.items k d).cells.items ≡ [] → IsGone r l.actuals l.i k;
  filled : (r : Routine) → AreLent r l.actuals l.initial.slots → (j : ℕ) (d e : Slot _) → j < l.i → IsFilled l.initial.self.slots.items l.actuals j (get_or l.initial.slots j d) (get_or l.slots j e);
}
