-- What is left of the actuals are those of the dummies that come, and the slots of those so far are passed.
use Rattle.std.proofs.Common.{◌≡◌, ◌<◌, ℕ, length, get_or, drop}
use Rattle.adj_interp_frame.specs.declared.slot.Slot.{Slot}
use Rattle.adj_interp_frame.specs.Prepared.{AreTermsBelow}
use Rattle.adj_interp_frame.specs.Passed.{AreWhole, wholes, IsPassed}
use Rattle.adj_interp_frame.proofs.frame.Frame.pass_dummies.Given as goal

abbrev pub invariant-loop-i : goal.invariant-loop-i
invariant-loop-i g l = record {
  many : length l.slots ≡ length l.initial.slots;
  below : AreTermsBelow (length l.self.slots.items) l.current;
  rest : wholes {C = g.row.N.Denot} l.current ≡ drop l.i (wholes l.terms);
  whole : AreWhole l.current → AreWhole l.terms;
  passed : (k : ℕ) (d : Slot _) → k < l.i → IsPassed g.N.Number.numbers l.routine l.self.names.now l.self.slots.items (wholes l.terms) k (get_or l.slots k d);
}
