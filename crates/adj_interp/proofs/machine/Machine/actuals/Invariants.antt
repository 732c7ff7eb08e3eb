-- The actuals so far, and what the others come to.
use Rattle.std.proofs.Common.{◌≡◌, ◌≤◌, ◌++◌, ℕ, length, take}
use Rattle.std.specs.Prelude.{Ok, Option}
use Rattle.adj_tree.specs.Code.{Var}
use Rattle.def_meaning.specs.Store.{Shape, Store}
use Rattle.def_meaning.specs.Trap.{then_ok}
use Rattle.def_meaning.specs.Units.{actuals}
use Rattle.adj_interp_frame.specs.Prepared.{terms_in, AreTermsBelow}
use Rattle.adj_interp_frame.specs.Called.{actuals_in, AreActualsBelow}
use Rattle.adj_interp_frame.specs.Shown.{on_numbers, Shows}
use Rattle.adj_interp.proofs.machine.Machine.actuals.Given as goal

abbrev pub invariant-loop-current : goal.invariant-loop-current
invariant-loop-current g l = record {
  below : AreTermsBelow (length l.self.frame.names.now) l.current;
  within : l.count ≤ length l.list.items;
  there : AreActualsBelow l.self.frame.slots.items (take l.count l.list.items);
  got : (shape : Var → Shape) (room : Option ℕ) (level : ℕ) (s : Store g.row.N.Denot) → Shows g.N.Number.numbers l.self.frame.names.now l.self.frame.slots.items shape s →
      actuals (on_numbers g.N.Number.numbers shape room level) (terms_in l.self.frame.names.now l.terms) s ≡ then_ok (actuals (on_numbers g.N.Number.numbers shape room level) (terms_in l.self.frame.names.now l.current) s) (λ got. Ok (actuals_in l.self.frame.names.now shape s (take l.count l.list.items) ++ got));
}
