use Rattle.std.proofs.Common.{◌≡◌, ◌<◌, ◌+◌, false, length, get_or, sym, ap, subst, ◌∙◌, arith, if◌then◌else◌}
use Rattle.def_meaning.specs.Store as store
use Rattle.def_meaning.specs.Store.{Shape, Store}
use Rattle.adj_interp_frame.specs.declared.slot.Slot.{Slot}
use Rattle.adj_interp_frame.specs.declared.actual.Actual.TheVariants as actual
use Rattle.adj_interp_frame.specs.Framed.{IsFrame, zero_in}
use Rattle.adj_interp_frame.specs.Prepared.{var_at, IsTermBelow, AreTermsBelow}
use Rattle.adj_interp_frame.specs.Shown.{Shows}
use Rattle.adj_interp_frame.specs.Called.{actuals_in}
use Rattle.adj_interp_frame.specs.Suited.{counts_in, HasCells}
use Rattle.adj_interp_frame.specs.Passed.{AreWhole, number_of, wholes}
use Rattle.adj_interp_frame.proofs.Reading.{has_first}
use Rattle.adj_interp_frame.proofs.Giving.{shown_cell}
use Rattle.adj_interp_frame.proofs.Suiting.{count_shown}
use Rattle.adj_interp_frame.proofs.Returning.{dummy_there, from_on}
use Rattle.adj_interp_frame.proofs.Taking.{next_of, out_whole, out_last, out_past, shown_whole}
use Rattle.adj_interp_frame.proofs.frame.Frame.take_back.Goals as goal
use Rattle.adj_interp_frame.proofs.frame.Frame.take_back.Goals.{then-writes-i+in-Var, else-writes-i}

pub set-requires-clause-within : goal.set-requires-clause-within
set-requires-clause-within g c d =
    let below = rw c.in-More.is at c.loop-i.invariant.below in
    let there = subst (IsTermBelow (length c.loop-i.self.slots.items)) (sym c.deref.ensures ∙ c.in-Var.is) below.0 in
    has_first (get_or c.loop-i.self.slots.items c.in-Var.variable d) (c.loop-i.invariant.framed.sized c.in-Var.variable d there)

pub loop-i-preserved : goal.loop-i-preserved
loop-i-preserved g c =
    let inv = c.loop-i.invariant in
    let numbers = g.N.Number.numbers in
    let names = c.args.self.now.names.now in
    let r = c.args.routine.now in
    let i = c.loop-i.i in
    let all = wholes {C = g.row.N.Denot} c.args.terms.now in
    let a = number_of c.in-More.first.value in
    let after = c.deref-current.ensures in
    let below = rw c.in-More.is at inv.below in
    let whole = rw c.in-More.is at inv.whole in
    let next = next_of all (wholes c.in-More.rest.value) (actual.Whole a) (actual.Whole a) i (sym (ap (wholes {C = g.row.N.Denot}) c.in-More.is) ∙ inv.left) in
    let lt = c.loop-i-test.true in
    let end = c.min-i-end.ensures in
    let dummies = ap length c.as_slice.ensures.members in
    let flags = ap length c.as_slice-writes.ensures.members in
    let m : i < length r.unit.now.dummies = omega (arith, lt, end, dummies, flags) in
    let n : i < length r.writes.now = omega (arith, lt, end, dummies, flags) in
    let flag = ap (λ ws. get_or ws i false) (sym c.as_slice-writes.ensures.members) in
    elim c.if-writes-i.branch [
      | then-writes-i+in-Var w ↦
          (let k = w.set.ensures in
          let same = inv.names in
          let framed = subst (λ ns. IsFrame ns w.set.new.self.slots.items) same k.framed in
          let x = w.in-Var.variable in
          let is = sym w.deref.ensures ∙ w.in-Var.is in
          let at = subst (λ j. get_or all i (actual.Whole j) ≡ actual.Whole j) (ap number_of is) next.1 in
          let there : x < length c.args.self.now.slots.items =
          let low = subst (IsTermBelow (length c.loop-i.self.slots.items)) is below.0 in
          let now = inv.framed.each in
          let was = c.requires.framed.each in
          omega (arith, low, now, was) in
          let d = w.index-slots-i.result in
          let inner : i < length c.args.slots.now =
          let j = dummy_there r c.requires.laid i m in
          let each = c.requires.inner.each in
          omega (arith, j, each) in
          let first = has_first (get_or c.args.slots.now i d) (c.requires.inner.sized i d inner) in
          rw w.self-is (record {
            names = k.names ∙ same;
            framed = framed;
            counts = k.counts ∙ inv.counts;
            below = subst (AreTermsBelow (length w.set.new.self.slots.items)) (sym after) (subst (λ count. AreTermsBelow count c.in-More.rest.value) (sym inv.framed.each ∙ framed.each) below.1);
            whole = subst AreWhole (sym after) whole.1;
            left = ap wholes after ∙ next.2;
            handed = λ shape inside s s0 t h q.
                let before = inv.handed shape inside s s0 t h q in
                let one = sym (count_shown numbers names c.args.self.now.slots.items shape s x c.requires.framed h there) ∙ subst (λ z. HasCells (counts_in c.args.self.now.slots.items) z (get_or (counts_in c.args.slots.now) i 0)) at (c.requires.large i (actual.Whole x) m next.0) ∙ c.requires.ones i m in
                let number = w.first.ensures ∙ ap (λ (v : Slot _). get_or v.cells.items 0 (zero_in numbers)) w.index-slots-i.is ∙ sym (shown_cell numbers r.names c.args.slots.now inside t q i d 0 c.requires.inner inner first) in
                let set = subst (λ ns. Shows numbers ns w.set.new.self.slots.items shape (store.set before.store (var_at ns x) 0 w.first.result)) same (k.shown shape before.store (subst (λ ns. Shows numbers ns c.loop-i.self.slots.items shape before.store) (sym same) before.shown)) in
                record {
                  store = store.set_all before.store (var_at names x) (t (var_at r.names i));
                  shown = shown_whole numbers names w.set.new.self.slots.items shape before.store (var_at names x) w.first.result (t (var_at r.names i)) one number set;
                  same = before.same ∙ out_whole r names shape s0 t all c.requires.laid i x m n next.0 at before.store ∙ ap (λ b. from_on r (actuals_in names shape s0 all) t (i + 1) (if b then store.set_all before.store (var_at names x) (t (var_at r.names i)) else before.store)) (flag ∙ w.if-writes-i.true);
                };
          }))
      | else-writes-i w ↦
          rw w.self-is (record {
            names = inv.names;
            framed = inv.framed;
            counts = inv.counts;
            below = subst (AreTermsBelow (length c.loop-i.self.slots.items)) (sym after) below.1;
            whole = subst AreWhole (sym after) whole.1;
            left = ap wholes after ∙ next.2;
            handed = λ shape inside s s0 t h q.
                let before = inv.handed shape inside s s0 t h q in
                record {
                  store = before.store;
                  shown = before.shown;
                  same = before.same ∙ out_whole r names shape s0 t all c.requires.laid i a m n next.0 next.1 before.store ∙ ap (λ b. from_on r (actuals_in names shape s0 all) t (i + 1) (if b then store.set_all before.store (var_at names a) (t (var_at r.names i)) else before.store)) (flag ∙ w.if-writes-i.false);
                };
          })
    ]

pub returns-in_default-clause-handed : goal.returns-in_default-clause-handed
returns-in_default-clause-handed g c shape inside s s0 t h q =
    let names = c.args.self.now.names.now in
    let all = wholes {C = g.row.N.Denot} c.args.terms.now in
    let k = c.loop-i.invariant.handed shape inside s s0 t h q in
    let none = sym (ap (wholes {C = g.row.N.Denot}) c.in_default.is) ∙ c.loop-i.invariant.left in
    subst (Shows g.N.Number.numbers names c.loop-i.self.slots.items shape) (sym (k.same ∙ out_last c.args.routine.now names shape s0 t all c.loop-i.i k.store none)) k.shown

pub returns-clause-handed : goal.returns-clause-handed
returns-clause-handed g c shape inside s s0 t h q =
    let names = c.args.self.now.names.now in
    let r = c.args.routine.now in
    let got = actuals_in names shape s0 (wholes {C = g.row.N.Denot} c.args.terms.now) in
    let k = c.loop-i.invariant.handed shape inside s s0 t h q in
    let past = c.loop-i-test.false in
    let end = c.min-i-end.ensures in
    let dummies = ap length c.as_slice.ensures.members in
    let flags = ap length c.as_slice-writes.ensures.members in
    subst (Shows g.N.Number.numbers names c.loop-i.self.slots.items shape) (sym (k.same ∙ out_past r got t c.loop-i.i k.store (λ m n. omega (arith, past, end, dummies, flags, m, n)))) k.shown
