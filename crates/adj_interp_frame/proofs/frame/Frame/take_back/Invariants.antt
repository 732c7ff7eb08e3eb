-- The slots show what is taken back so far, and the expressions that are left are the whole variables from the next on.
use Rattle.std.proofs.Common.{◌≡◌, length, drop}
use Rattle.adj_tree.specs.Code.{Var}
use Rattle.def_meaning.specs.Store.{Shape, Store}
use Rattle.def_meaning.specs.Units.{copied_out}
use Rattle.adj_interp_frame.specs.Prepared.{AreTermsBelow}
use Rattle.adj_interp_frame.specs.Framed.{IsFrame}
use Rattle.adj_interp_frame.specs.Shown.{Shows}
use Rattle.adj_interp_frame.specs.Suited.{counts_in}
use Rattle.adj_interp_frame.specs.Called.{actuals_in}
use Rattle.adj_interp_frame.specs.Passed.{AreWhole, wholes}
use Rattle.adj_interp_frame.proofs.Returning.{from_on}
use Rattle.adj_interp_frame.proofs.Taking.{Taken}
use Rattle.adj_interp_frame.proofs.frame.Frame.take_back.Given as goal

abbrev pub invariant-loop-i : goal.invariant-loop-i
invariant-loop-i g l = record {
  names : l.self.names.now ≡ l.initial.self.names.now;
  framed : IsFrame l.initial.self.names.now l.self.slots.items;
  counts : counts_in l.self.slots.items ≡ counts_in l.initial.self.slots.items;
  below : AreTermsBelow (length l.self.slots.items) l.current;
  whole : AreWhole l.current;
  left : wholes {C = g.row.N.Denot} l.current ≡ drop l.i (wholes l.terms);
  handed : (shape inside : Var → Shape) (s s0 t : Store g.row.N.Denot) → Shows g.N.Number.numbers l.initial.self.names.now l.initial.self.slots.items shape s → Shows g.N.Number.numbers l.routine.names l.slots inside t
      → Taken g.N.Number.numbers l.initial.self.names.now l.self.slots.items shape (copied_out l.routine.unit.now.dummies l.routine.writes.now (actuals_in l.initial.self.names.now shape s0 (wholes l.terms)) t s) (from_on l.routine (actuals_in l.initial.self.names.now shape s0 (wholes l.terms)) t l.i);
}
