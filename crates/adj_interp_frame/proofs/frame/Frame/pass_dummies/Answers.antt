use Rattle.std.proofs.Common.{rules, ◌≡◌, ◌<◌, length, refl, sym, ap, subst, ◌∙◌, arith}
use Rattle.std.specs.Prelude.{slice_get, Some}
use Rattle.std.proofs.Math.ListN.{length-set}
use Rattle.adj_interp_frame.specs.declared.actual.Actual.TheVariants as actual
use Rattle.adj_interp_frame.specs.declared.layout.Layout.TheVariants as layout
use Rattle.adj_interp_frame.specs.Passed.{IsWhole, wholes, number_of, IsPassed}
use Rattle.adj_interp_frame.proofs.Entering.{set_each, given_cells}
use Rattle.adj_interp_frame.proofs.Returning.{dummy_there}
use Rattle.adj_interp_frame.proofs.Taking.{next_of}
use Rattle.std.proofs.lemmas.Option.{slice_get-get_or}
use Rattle.adj_interp_frame.proofs.Scalars.{given_there, scalar_passed}
use Rattle.adj_interp_frame.proofs.frame.Frame.pass_dummies.Goals as goal

pub loop-i-preserved : goal.loop-i-preserved
loop-i-preserved g c =
    let inv = c.loop-i.invariant in
    let i = c.loop-i.i in
    let slots = c.loop-i.slots in
    let r = c.args.routine.now in
    let l = c.requires.laid in
    let names = c.args.self.now.names.now in
    let vs = c.args.self.now.slots.items in
    let all = wholes {C = g.row.N.Denot} c.args.terms.now in
    let k = c.in-Var.variable in
    let lt : i < length r.unit.now.dummies = search rules in
    let there = dummy_there r l i lt in
    let many = inv.many in
    let each = c.requires.many in
    let within : i < length slots = omega (arith, there, many, each) in
    let rest = rw c.in-More.is at inv.rest in
    let below = rw c.in-More.is at inv.below in
    let whole = rw c.in-More.is at inv.whole in
    let var = sym c.deref.ensures ∙ c.in-Var.is in
    let next = next_of all (wholes c.in-More.rest.value) (actual.Whole (number_of c.in-More.first.value)) (actual.Whole k) i rest in
    let at : slice_get all i ≡ Some (actual.Whole k) = slice_get-get_or all i (actual.Whole k) next.0 ∙ ap Some (next.1 ∙ ap (λ e. actual.Whole (number_of e)) var) in
    let given = given_there (length r.unit.now.dummies) all i (actual.Whole k) lt at in
    record {
      many = length-set slots i c.hold_scalar.new.slot ∙ inv.many;
      below = rw c.deref-current.ensures below.1;
      rest = rw c.deref-current.ensures next.2;
      whole = rw c.deref-current.ensures (λ z. whole (subst IsWhole (sym var) tt, z));
      passed = set_each (IsPassed g.N.Number.numbers r names vs all) slots c.hold_scalar.new.slot i within inv.passed
          (scalar_passed g.N.Number.numbers r l names vs all i layout.Scalar there (l.scalars c.requires.plain i layout.Scalar there) c.hold_scalar.new.slot c.first_of-number.result (c.if-not-hold_scalar.ensures.shape refl) (c.if-not-hold_scalar.ensures.cells refl)
          (λ shape s h. c.first_of-number.ensures shape s h ∙ sym (given_cells g.N.Number.numbers r l names shape s all i there (actual.Whole k) 0 given)));
    }
