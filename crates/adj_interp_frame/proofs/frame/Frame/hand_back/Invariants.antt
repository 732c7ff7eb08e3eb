-- The slots show what is handed back so far, but for cells that come back later, and the dummies from the next on stand as they stood.
use Rattle.std.proofs.Common.{◌≡◌, ◌≤◌, ℕ, length, get_or}
use Rattle.adj_tree.specs.Code.{Var}
use Rattle.def_meaning.specs.Store.{Shape, Store}
use Rattle.def_meaning.specs.Units.{copied_out}
use Rattle.adj_interp_frame.specs.declared.slot.Slot.{Slot}
use Rattle.adj_interp_frame.specs.Framed.{slot_shape}
use Rattle.adj_interp_frame.specs.Shown.{Shows}
use Rattle.adj_interp_frame.specs.Called.{actuals_in}
use Rattle.adj_interp_frame.specs.Lent.{IsFrameFrom, ShowsHeld, AreRead}
use Rattle.adj_interp_frame.proofs.Returning.{Comes, from_on}
use Rattle.adj_interp_frame.proofs.frame.Frame.hand_back.Given as goal

abbrev pub invariant-loop-i : goal.invariant-loop-i
invariant-loop-i g l = record {
  names : l.self.names.now ≡ l.initial.self.names.now;
  framed : IsFrameFrom l.routine l.actuals l.i l.initial.self.names.now l.self.slots.items;
  shapes : (k : ℕ) (d : Slot _) → slot_shape (get_or l.self.slots.items k d) ≡ slot_shape (get_or l.initial.self.slots.items k d);
  many : length l.slots ≡ length l.initial.slots;
  rest : (j : ℕ) (d : Slot _) → l.i ≤ j → get_or l.slots j d ≡ get_or l.initial.slots j d;
  handed : (shape inside : Var → Shape) (s s0 t : Store g.row.N.Denot) → ShowsHeld g.N.Number.numbers l.initial.self.names.now l.initial.self.slots.items shape s → Shows g.N.Number.numbers l.routine.names l.initial.slots inside t → AreRead l.routine l.actuals l.initial.self.names.now t s
      → Comes g.N.Number.numbers l.actuals l.i l.initial.self.names.now l.self.slots.items shape s (copied_out l.routine.unit.now.dummies l.routine.writes.now (actuals_in l.initial.self.names.now shape s0 l.actuals) t s) (from_on l.routine (actuals_in l.initial.self.names.now shape s0 l.actuals) t l.i);
}
