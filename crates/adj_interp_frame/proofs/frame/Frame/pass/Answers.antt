use Rattle.std.proofs.Common.{◌≡◌, ◌<◌, ◌≤◌, ℕ, length, get_or, sym, ap, ◌∙◌, arith}
use Rattle.std.proofs.lemmas.List.{length-append}
use Rattle.adj_interp_frame.specs.declared.slot.Slot.{Slot}
use Rattle.adj_interp_frame.specs.Called.{actuals_in}
use Rattle.adj_interp_frame.specs.Passed.{wholes, IsPassed}
use Rattle.adj_interp_frame.proofs.Entering.{entered_shown}
use Rattle.adj_interp_frame.proofs.Borrowing.{some_slot}
use Rattle.adj_interp_frame.proofs.Suiting.{count_at}
use Rattle.adj_interp_frame.proofs.Scalars.{both, all_fit}
use Rattle.adj_interp_frame.proofs.frame.Frame.pass.Goals as goal

pub returns : goal.returns
returns g c = record {
  passed = λ e.
      let r = c.args.routine.now in
      let l = c.requires.laid in
      let names = c.args.self.now.names.now in
      let vs = c.args.self.now.slots.items in
      let es = c.args.terms.now in
      let all = wholes {C = g.row.N.Denot} es in
      let ws = c.pass_others.new.slots in
      let first = c.pass_dummies.ensures in
      let others = c.pass_others.ensures in
      let yes = c.if-not-pass_dummies.false in
      let n : length r.names ≡ length ws = sym (others.many ∙ first.many ∙ c.if-slots-as_slice.false ∙ ap length c.as_slice.ensures.members) in
      let each : (i : ℕ) (d : Slot _) → i < length ws → IsPassed g.N.Number.numbers r names vs all i (get_or ws i d) =
      λ i d lt. both g.N.Number.numbers r names vs all c.pass_dummies.new.slots ws others.dummies (first.passed yes) (others.passed e) i d lt in
      let longer = length-append r.unit.now.dummies l.others in
      let named = ap length l.names in
      let few : length r.unit.now.dummies ≤ length ws = omega (arith, longer, named, n) in
      record {
        whole = first.whole yes;
        framed = record { apart = l.apart; each = n; sized = λ i d lt. (each i d lt).sized };
        ones = λ i lt.
            let there : i < length ws = omega (arith, lt, few) in
            let d = some_slot ws i there in
            count_at ws i d there ∙ (each i d there).one;
        shown = λ shape s h. entered_shown g.N.Number.numbers r (actuals_in names shape s all) ws l n (λ i d lt. (each i d (omega (arith, lt, n))).entered shape s h);
        fits = λ shape s h. all_fit g.N.Number.numbers r l names vs all ws shape s h each few;
      };
}
