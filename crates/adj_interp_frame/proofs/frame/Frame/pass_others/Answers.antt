use Rattle.std.proofs.Common.{rules, ◌<◌, ◌≤◌, length, refl, sym, ◌∙◌, arith}
use Rattle.std.proofs.Math.ListN.{length-set}
use Rattle.std.proofs.lemmas.List.{get_or-set_other}
use Rattle.adj_interp_frame.specs.declared.layout.Layout.TheVariants as layout
use Rattle.adj_interp_frame.specs.Passed.{wholes, IsPassed}
use Rattle.adj_interp_frame.proofs.Entering.{set_each, none_cells}
use Rattle.adj_interp_frame.proofs.Scalars.{given_past, scalar_passed}
use Rattle.adj_interp_frame.proofs.frame.Frame.pass_others.Goals as goal

pub loop-i-preserved : goal.loop-i-preserved
loop-i-preserved g c =
    let inv = c.loop-i.invariant in
    let i = c.loop-i.i in
    let slots = c.loop-i.slots in
    let r = c.args.routine.now in
    let l = c.requires.laid in
    let names = c.args.self.now.names.now in
    let vs = c.args.self.now.slots.items in
    let all = wholes {C = g.row.N.Denot} c.args.terms.now in
    let v = c.hold_scalar.new.slot in
    let many = inv.many in
    let each = c.requires.many in
    let within : i < length slots = search rules in
    let there : i < length r.names = omega (arith, within, many, each) in
    let past : length r.unit.now.dummies ≤ i = search rules in
    let none = given_past (length r.unit.now.dummies) all i past in
    let here = scalar_passed g.N.Number.numbers r l names vs all i layout.Scalar there (l.scalars c.requires.plain i layout.Scalar there) v c.of_word.result (c.if-not-hold_scalar.ensures.shape refl) (c.if-not-hold_scalar.ensures.cells refl)
    (λ shape s h. c.of_word.ensures ∙ sym (none_cells g.N.Number.numbers r l names shape s all i there 0 none)) in
    record {
      many = length-set slots i v ∙ inv.many;
      dummies = λ k d lt. get_or-set_other slots i k v d (λ q. omega (arith, q, lt, past)) ∙ inv.dummies k d lt;
      passed = λ k d from lt. set_each (λ j z. length r.unit.now.dummies ≤ j → IsPassed g.N.Number.numbers r names vs all j z) slots v i within (λ j e m n. inv.passed j e n m) (λ n. here) k d lt from;
    }
