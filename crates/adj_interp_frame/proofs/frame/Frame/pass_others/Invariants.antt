-- The dummies' slots stay, and those of the other variables so far are passed.
use Rattle.std.proofs.Common.{◌≡◌, ◌≤◌, ◌<◌, ℕ, length, get_or}
use Rattle.adj_interp_frame.specs.declared.slot.Slot.{Slot}
use Rattle.adj_interp_frame.specs.Passed.{wholes, IsPassed}
use Rattle.adj_interp_frame.proofs.frame.Frame.pass_others.Given as goal

abbrev pub invariant-loop-i : goal.invariant-loop-i
invariant-loop-i g l = record {
  many : length l.slots ≡ length l.initial.slots;
  dummies : (k : ℕ) (d : Slot _) → k < length l.routine.unit.now.dummies → get_or l.slots k d ≡ get_or l.initial.slots k d;
  passed : (k : ℕ) (d : Slot _) → length l.routine.unit.now.dummies ≤ k → k < l.i → IsPassed g.N.Number.numbers l.routine l.self.names.now l.self.slots.items (wholes l.terms) k (get_or l.slots k d);
}
