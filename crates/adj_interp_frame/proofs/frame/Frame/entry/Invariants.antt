-- Each slot so far is as at the entry once it is filled, none is without cells where that is said, and what fits from the next dummy on fits from the first.
use Rattle.std.proofs.Common.{◌≡◌, ℕ, ◌<◌, true, [], length, get_or}
use Rattle.adj_tree.specs.Code.{Var}
use Rattle.def_meaning.specs.Store.{Shape, Store}
use Rattle.adj_interp_frame.specs.declared.slot.Slot.{Slot}
use Rattle.adj_interp_frame.specs.Framed.{IsSlot}
use Rattle.adj_interp_frame.specs.Shown.{Shows}
use Rattle.adj_interp_frame.specs.Called.{actuals_in, IsEntered, fit_from}
use Rattle.adj_interp_frame.specs.Lent.{HasLender, IsFilled}
use Rattle.adj_interp_frame.proofs.frame.Frame.entry.Given as goal

abbrev pub invariant-loop-i : goal.invariant-loop-i
invariant-loop-i g l = record {
  count : length l.slots.items ≡ l.count;
  full : l.is_full ≡ true → (k : ℕ) (d : Slot _) → k < l.i → (get_or l.slots.items k d).cells.items ≡ [] → ⊥;
  lent : (k : ℕ) (d : Slot _) → k < l.i → (get_or l.slots.items k d).cells.items ≡ [] → HasLender l.routine l.actuals k;
  sized : (k : ℕ) (d : Slot _) → k < l.i → (u : Slot _) → IsFilled l.self.slots.items l.actuals k (get_or l.slots.items k d) u → IsSlot u;
  entered : (k : ℕ) (d : Slot _) → k < l.i → (u : Slot _) → IsFilled l.self.slots.items l.actuals k (get_or l.slots.items k d) u → (shape : Var → Shape) (s : Store g.row.N.Denot) → Shows g.N.Number.numbers l.self.names.now l.self.slots.items shape s → IsEntered g.N.Number.numbers l.routine (actuals_in l.self.names.now shape s l.actuals) k u;
  fits : (shape : Var → Shape) (s : Store g.row.N.Denot) → Shows g.N.Number.numbers l.self.names.now l.self.slots.items shape s → fit_from g.N.Number.numbers l.routine (actuals_in l.self.names.now shape s l.actuals) 0 ≡ fit_from g.N.Number.numbers l.routine (actuals_in l.self.names.now shape s l.actuals) l.i;
}
