-- The measures, and what a list of expressions has left.
use Rattle.std.proofs.Common.{◌≡◌, ◌≤◌, ◌+◌, ◌*◌, Ok, length}
use Rattle.def_meaning.specs.Trap.{then_ok}
use Rattle.def_meaning.specs.Value.{values}
use Rattle.adj_interp_frame.specs.declared.term.Terms.{size-Terms}
use Rattle.adj_interp_frame.specs.Prepared.{terms_in, AreTermsBelow}
use Rattle.adj_interp_frame.specs.Framed.{store_in, setting_in_slots}
use Rattle.adj_interp_frame.proofs.frame.Frame.+value.Given as goal

abbrev pub decreases-cell : goal.decreases-cell
decreases-cell g l = 3 * goal.size-cell g l

abbrev pub decreases-cell_behind : goal.decreases-cell_behind
decreases-cell_behind g l = 3 * goal.size-cell_behind g l

abbrev pub decreases-each_value : goal.decreases-each_value
decreases-each_value g l = 3 * goal.size-each_value g l

abbrev pub decreases-value : goal.decreases-value
decreases-value g l = 3 * goal.size-value g l

abbrev pub decreases-operand : goal.decreases-operand
decreases-operand g l = 3 * goal.size-operand g l + 1

abbrev pub decreases-nested : goal.decreases-nested
decreases-nested g l = 3 * goal.size-nested g l + 2

abbrev pub invariant-each_value-loop-current : goal.invariant-each_value-loop-current
invariant-each_value-loop-current g l = record {
  no_deeper : size-Terms l.current ≤ size-Terms l.initial.current;
  below : AreTermsBelow (length l.self.slots.items) l.current;
  traps : then_ok (values (setting_in_slots g.N.Number.numbers l.self.names.now l.self.slots.items) (terms_in l.self.names.now l.current) (store_in g.N.Number.numbers l.self.names.now l.self.slots.items)) (λ is. Ok (tt {0}))
      ≡ then_ok (values (setting_in_slots g.N.Number.numbers l.self.names.now l.self.slots.items) (terms_in l.self.names.now l.terms) (store_in g.N.Number.numbers l.self.names.now l.self.slots.items)) (λ is. Ok (tt {0}));
}
