use Rattle.std.proofs.Common.{◌≡◌, ◌+◌, ◌<◌, ℕ, Bool, true, false, refl, if◌then◌else◌, length, get_or, sym, ap, subst, ◌∙◌, arith}
use Rattle.std.proofs.lemmas.List.{length-map, get_or-map}
use Rattle.std.proofs.lemmas.Option.{get_or_from_slice_get, slice_get-get_or}
use Rattle.adj_tree.specs.Code.{Var}
use Rattle.def_meaning.specs.Store.{Shape, size_of, Store}
use Rattle.adj_interp_frame.specs.declared.slot.Slot.{Slot}
use Rattle.adj_interp_frame.specs.declared.actual.Actual.TheVariants as actual
use Rattle.adj_interp_frame.specs.Framed.{IsSlot, slot_shape, zero_in}
use Rattle.adj_interp_frame.specs.Shown.{Shows}
use Rattle.adj_interp_frame.specs.Called.{actual_in, actuals_in, place_of, is_written_at, handed}
use Rattle.adj_interp_frame.specs.Suited.{counts_in, HasCells}
use Rattle.adj_interp_frame.specs.Lent.{IsFirst, IsFrameFrom, ShowsHeld, AreRead, sizes_in}
use Rattle.adj_interp_frame.proofs.Giving.{shown_cell}
use Rattle.adj_interp_frame.proofs.Borrowing.{given_get, within_on, within_at, size_at, sizes_alike, place_within, put_elsewhere, frame_end, shows_end}
use Rattle.adj_interp_frame.proofs.Returning.{Comes, dummy_there, from_on, out_next, out_end, place_is}
use Rattle.adj_interp_frame.proofs.Suiting.{count_at}
use Rattle.def_meaning.specs.Units.{Actual, put, copied_out}
use Rattle.adj_interp_frame.specs.Prepared.{var_at}
use Rattle.adj_interp_frame.proofs.frame.Frame.hand_back.Goals as goal

pub hand_next-requires-clause-below : goal.hand_next-requires-clause-below
hand_next-requires-clause-below g c =
    let inv = c.loop-i.invariant in
    within_on c.args.self.now.slots.items c.loop-i.self.slots.items c.args.actuals.now (sym inv.framed.each ∙ c.requires.framed.each) inv.shapes c.requires.below

-- a dummy has its slot
pub hand_next-requires-clause-there : goal.hand_next-requires-clause-there
hand_next-requires-clause-there g c dummy =
    let there = dummy_there c.args.routine.now c.requires.laid c.loop-i.i dummy in
    let each = c.requires.inner.each in
    let many = c.loop-i.invariant.many in
    omega (arith, there, each, many)

pub hand_next-requires-clause-sized : goal.hand_next-requires-clause-sized
hand_next-requires-clause-sized g c d dummy =
    let there = dummy_there c.args.routine.now c.requires.laid c.loop-i.i dummy in
    let each = c.requires.inner.each in
    subst IsSlot (sym (c.loop-i.invariant.rest c.loop-i.i d (omega arith))) (c.requires.inner.sized c.loop-i.i d (omega (arith, there, each)))

pub hand_next-requires-clause-large : goal.hand_next-requires-clause-large
hand_next-requires-clause-large g c k d e dummy at =
    let r = c.args.routine.now in
    let i = c.loop-i.i in
    let all = c.args.actuals.now in
    let vs = c.args.self.now.slots.items in
    let inv = c.loop-i.invariant in
    let there = dummy_there c.args.routine.now c.requires.laid c.loop-i.i dummy in
    let each = c.requires.inner.each in
    let lt = within_at vs all i k c.requires.below at in
    let large = subst (λ z. HasCells (sizes_in c.args.self.now.slots.items) z (get_or (counts_in c.args.slots.now) c.loop-i.i 0)) (get_or_from_slice_get all i (actual.Whole k) (actual.Whole k) at) (c.requires.large i (actual.Whole k) dummy c.loop-i-test.true) in
    ap size_of (inv.shapes k d) ∙ sym (size_at vs k d lt) ∙ large ∙ count_at c.args.slots.now i e (omega (arith, there, each)) ∙ ap (λ (v : Slot _). length v.cells.items) (sym (inv.rest i e (omega arith)))

pub loop-i-preserved : goal.loop-i-preserved
loop-i-preserved g c =
    let inv = c.loop-i.invariant in
    let k = c.hand_next.ensures in
    let names = c.args.self.now.names.now in
    let i = c.loop-i.i in
    let same = inv.names in
    record {
      names = k.names ∙ same;
      framed = subst (λ ns. IsFrameFrom c.args.routine.now c.args.actuals.now (c.loop-i.i + 1) ns c.hand_next.new.self.slots.items) same k.framed;
      shapes = λ j d. k.shapes j d ∙ inv.shapes j d;
      many = k.many ∙ inv.many;
      rest = λ j d later.
          k.others j d (λ q. absurd (omega (arith, q, later))) ∙ inv.rest j d (omega (arith, later));
      handed = λ shape inside s s0 t h q read.
          let r = c.args.routine.now in
          let all = c.args.actuals.now in
          let a = actual.Word (zero_in g.N.Number.numbers) in
          let got = actuals_in names shape s0 all in
          let before = inv.handed shape inside s s0 t h q read in
          let lt = c.loop-i-test.true in
          let n = length-map all (actual_in names shape s0) in
          let there : c.loop-i.i < length (actuals_in names shape s0 c.args.actuals.now) = omega (arith, n, lt) in
          let b = actual_in names shape s0 a in
          let place = ap (λ (z : Actual _). z.place) (get_or-map (actual_in names shape s0) all i a b lt) ∙ place_is names shape s0 (get_or all i a) in
          let shown = subst (λ ns. ShowsHeld g.N.Number.numbers ns c.hand_next.new.self.slots.items shape (handed r i (place_of ns (get_or all i a)) t before.store)) same (k.handed a shape before.store t (subst (λ ns. ShowsHeld g.N.Number.numbers ns c.loop-i.self.slots.items shape before.store) (sym same) before.shown)
          (λ d j dummy m.
          let there = dummy_there r c.requires.laid i dummy in
          let each = c.requires.inner.each in
          let as_it_was = inv.rest i d (omega arith) in
          let inside_lt : c.loop-i.i < length c.args.slots.now = omega (arith, there, each) in
          let sized = c.requires.inner.sized i d inside_lt in
          let k2 = ap (λ (z : Slot _). size_of (slot_shape z)) as_it_was in
          shown_cell g.N.Number.numbers r.names c.args.slots.now inside t q i d j c.requires.inner inside_lt (omega (arith, m, k2, sized)) ∙ ap (λ (z : Slot _). get_or z.cells.items j (zero_in g.N.Number.numbers)) (sym as_it_was))
          (λ m j unwritten lent.
          let at = given_get (length r.unit.now.dummies) all i (actual.Whole m) lent.given in
          let each = c.requires.framed.each in
          let within = within_at c.args.self.now.slots.items all i m c.requires.below at in
          read i m j unwritten lent.given ∙ sym (before.untouched m j (omega (arith, within, each)) lent.first) ∙ ap (λ ns. before.store (var_at ns m) j) (sym same))) in
          record {
            store = handed r i (place_of names (get_or all i a)) t before.store;
            shown = shown;
            same = before.same ∙ out_next r got t c.requires.laid i b before.store there ∙ ap (λ p. from_on r got t (i + 1) (handed r i p t before.store)) place;
            untouched = λ m j within first. untouched shape inside s s0 t h q read m j within first (is_written_at r i) refl;
          };
    }
  where
    untouched : (shape inside : Var → Shape) (s s0 t : Store _) (h : ShowsHeld g.N.Number.numbers c.args.self.now.names.now c.args.self.now.slots.items shape s) (q : Shows g.N.Number.numbers c.args.routine.now.names c.args.slots.now inside t) (read : AreRead c.args.routine.now c.args.actuals.now c.args.self.now.names.now t s) (m j : ℕ) → m < length c.args.self.now.names.now → IsFirst c.args.actuals.now (c.loop-i.i + 1) m → (b : Bool) → is_written_at c.args.routine.now c.loop-i.i ≡ b
        → (if b then put (place_of c.args.self.now.names.now (get_or c.args.actuals.now c.loop-i.i (actual.Word (zero_in g.N.Number.numbers)))) (t (var_at c.args.routine.now.names c.loop-i.i)) (c.loop-i.invariant.handed shape inside s s0 t h q read).store else (c.loop-i.invariant.handed shape inside s s0 t h q read).store) (var_at c.args.self.now.names.now m) j ≡ s (var_at c.args.self.now.names.now m) j
    untouched shape inside s s0 t h q read m j within first b e = go b
      where
        before : Comes g.N.Number.numbers c.args.actuals.now c.loop-i.i c.args.self.now.names.now c.loop-i.self.slots.items shape s (copied_out c.args.routine.now.unit.now.dummies c.args.routine.now.writes.now (actuals_in c.args.self.now.names.now shape s0 c.args.actuals.now) t s) (from_on c.args.routine.now (actuals_in c.args.self.now.names.now shape s0 c.args.actuals.now) t c.loop-i.i)
        before = c.loop-i.invariant.handed shape inside s s0 t h q read

        was : before.store (var_at c.args.self.now.names.now m) j ≡ s (var_at c.args.self.now.names.now m) j
        was = before.untouched m j within (λ i2 a lt. first i2 a (omega (arith, lt)))

        go : (b : Bool) → (if b then put (place_of c.args.self.now.names.now (get_or c.args.actuals.now c.loop-i.i (actual.Word (zero_in g.N.Number.numbers)))) (t (var_at c.args.routine.now.names c.loop-i.i)) before.store else before.store) (var_at c.args.self.now.names.now m) j ≡ s (var_at c.args.self.now.names.now m) j
        go true =
            let each = c.requires.framed.each in
            let a = actual.Word (zero_in g.N.Number.numbers) in
            let now = get_or c.args.actuals.now c.loop-i.i a in
            put_elsewhere c.args.self.now.names.now now m (t (var_at c.args.routine.now.names c.loop-i.i)) before.store c.requires.framed.apart within
            (λ n p. let lt = place_within c.args.self.now.slots.items now (c.requires.below c.loop-i.i a c.loop-i-test.true) n p in omega (arith, lt, each))
            (first c.loop-i.i now (omega arith) (slice_get-get_or c.args.actuals.now c.loop-i.i a c.loop-i-test.true)) j
            ∙ was
        go false = was

pub returns-clause-framed : goal.returns-clause-framed
returns-clause-framed g c =
    let past = c.loop-i-test.false in
    frame_end c.args.routine.now c.args.actuals.now c.loop-i.i c.args.self.now.names.now c.loop-i.self.slots.items c.loop-i.invariant.framed (omega (arith, past))

pub returns-clause-counts : goal.returns-clause-counts
returns-clause-counts g c =
    let inv = c.loop-i.invariant in
    let past = c.loop-i-test.false in
    let framed = frame_end c.args.routine.now c.args.actuals.now c.loop-i.i c.args.self.now.names.now c.loop-i.self.slots.items inv.framed (omega (arith, past)) in
    sym (sizes_alike c.args.self.now.slots.items c.loop-i.self.slots.items (sym c.requires.framed.each ∙ inv.framed.each) (λ k d. sym (inv.shapes k d)) framed.sized)

pub returns-clause-handed : goal.returns-clause-handed
returns-clause-handed g c shape inside s s0 t h q read =
    let names = c.args.self.now.names.now in
    let r = c.args.routine.now in
    let all = c.args.actuals.now in
    let got = actuals_in names shape s0 c.args.actuals.now in
    let k = c.loop-i.invariant.handed shape inside s s0 t h q read in
    let n = length-map c.args.actuals.now (actual_in names shape s0) in
    let past = c.loop-i-test.false in
    subst (Shows g.N.Number.numbers names c.loop-i.self.slots.items shape) (sym (k.same ∙ out_end c.args.routine.now got t c.loop-i.i k.store (omega (arith, n, past))))
    (shows_end g.N.Number.numbers names c.loop-i.self.slots.items shape k.store k.shown (frame_end r all c.loop-i.i names c.loop-i.self.slots.items c.loop-i.invariant.framed (omega (arith, past))))
