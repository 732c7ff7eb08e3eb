use Rattle.std.proofs.Common.{◌≡◌, ◌<◌, Bool, true, false, length, get_or, refl, sym, ap, subst, ◌∙◌, if◌then◌else◌}
use Rattle.std.specs.Prelude.{Some, slice_get}
use Rattle.std.proofs.Math.ListN.{set}
use Rattle.std.proofs.lemmas.Option.{slice_get_read, get_or_from_slice_get}
use Rattle.def_meaning.specs.Store as store
use Rattle.def_meaning.specs.Store.{size_of}
use Rattle.def_meaning.specs.Units.{put}
use Rattle.def_meaning.proofs.Cells.{size_positive}
use Rattle.adj_interp_frame.specs.declared.slot.Slot.{Slot}
use Rattle.adj_interp_frame.specs.declared.actual.Actual.TheVariants as actual
use Rattle.adj_interp_frame.specs.Prepared.{var_at}
use Rattle.adj_interp_frame.specs.Framed.{slot_shape, zero_in}
use Rattle.adj_interp_frame.specs.Called.{is_written_at, place_of}
use Rattle.adj_interp_frame.specs.Lent.{ShowsHeld}
use Rattle.adj_interp_frame.proofs.Borrowing.{same_whole, not_cell, not_word, within_at, within_cell, set_shapes, frame_on, whole_frame, cell_had, cell_frame, whole_shows, own_shows, cell_shows}
use Rattle.adj_interp_frame.proofs.Returning.{written_dummy}
use Rattle.adj_interp_frame.proofs.frame.Frame.hand_next.Goals as goal

-- ---- a whole variable

pub returns-then-is_due-clause-framed : goal.returns-then-is_due-clause-framed
returns-then-is_due-clause-framed g c =
    let vs = c.args.self.now.slots.items in
    let all = c.args.actuals.now in
    let k = c.in-Whole.k in
    let v = c.index_mut-target.result.now in
    let w = c.index-slots-i.result in
    let dummy = c.is_due.ensures.dummy c.if-is_due.true in
    let at = slice_get_read all (length all) c.args.i c.index-actuals-i.result refl c.requires.next c.index-actuals-i.is ∙ ap Some c.in-Whole.is in
    let shaped = c.take.ensures.shape ∙ ap slot_shape c.index_mut-target.ensures.value in
    whole_frame c.args.routine.now all c.args.i c.args.self.now.names.now vs c.requires.framed k c.take.new.self at (within_at vs all c.args.i k c.requires.below at)
    (ap length c.take.ensures.cells ∙ sym (c.requires.large k v w dummy at) ∙ ap size_of (sym shaped))

pub returns-then-is_due-clause-handed : goal.returns-then-is_due-clause-handed
returns-then-is_due-clause-handed g c a shape s t h q own = go (is_written_at c.args.routine.now c.args.i) refl
  where
    go : (b : Bool) → is_written_at c.args.routine.now c.args.i ≡ b → ShowsHeld g.N.Number.numbers c.args.self.now.names.now (set c.args.self.now.slots.items c.in-Whole.k c.take.new.self) shape (if b then put (place_of c.args.self.now.names.now (get_or c.args.actuals.now c.args.i a)) (t (var_at c.args.routine.now.names c.args.i)) s else s)
    go true written =
        let names = c.args.self.now.names.now in
        let r = c.args.routine.now in
        let vs = c.args.self.now.slots.items in
        let all = c.args.actuals.now in
        let i = c.args.i in
        let k = c.in-Whole.k in
        let e = c.take.new.self in
        let v = c.index_mut-target.result.now in
        let w = c.index-slots-i.result in
        let dummy = c.is_due.ensures.dummy c.if-is_due.true in
        let at = slice_get_read all (length all) i c.index-actuals-i.result refl c.requires.next c.index-actuals-i.is ∙ ap Some c.in-Whole.is in
        let shaped = c.take.ensures.shape ∙ ap slot_shape c.index_mut-target.ensures.value in
        let size = ap size_of shaped ∙ c.requires.large k v w dummy at ∙ c.requires.sized w dummy in
        let there = within_at vs all i k c.requires.below at in
        subst (λ z. ShowsHeld g.N.Number.numbers names (set vs k e) shape (put (place_of names z) (t (var_at r.names i)) s)) (sym (get_or_from_slice_get all i (actual.Whole k) a at))
        (whole_shows g.N.Number.numbers names vs shape s h c.requires.framed.apart c.requires.framed.each k e v there shaped (t (var_at r.names i))
        (λ j lt. q w j dummy (subst (λ n. j < n) size lt) ∙ ap (λ cs. get_or cs j (zero_in g.N.Number.numbers)) (sym c.take.ensures.cells)))
    go false unwritten =
        let names = c.args.self.now.names.now in
        let vs = c.args.self.now.slots.items in
        let all = c.args.actuals.now in
        let i = c.args.i in
        let k = c.in-Whole.k in
        let v = c.index_mut-target.result.now in
        let w = c.index-slots-i.result in
        let dummy = c.is_due.ensures.dummy c.if-is_due.true in
        let lent = c.is_due.ensures.lent c.if-is_due.true unwritten in
        let at = slice_get_read all (length all) i c.index-actuals-i.result refl c.requires.next c.index-actuals-i.is ∙ ap Some c.in-Whole.is in
        let shaped = c.take.ensures.shape ∙ ap slot_shape c.index_mut-target.ensures.value in
        let size = ap size_of shaped ∙ c.requires.large k v w dummy at ∙ c.requires.sized w dummy in
        own_shows g.N.Number.numbers names vs shape s h c.requires.framed.apart c.requires.framed.each k c.take.new.self v (within_at vs all i k c.requires.below at) shaped
        (λ j lt. sym (own k j unwritten lent) ∙ q w j dummy (subst (λ n. j < n) size lt) ∙ ap (λ cs. get_or cs j (zero_in g.N.Number.numbers)) (sym c.take.ensures.cells))

pub returns-else-is_due-clause-framed : goal.returns-else-is_due-clause-framed
returns-else-is_due-clause-framed g c =
    let vs = c.args.self.now.slots.items in
    let all = c.args.actuals.now in
    let k = c.in-Whole.k in
    let at = slice_get_read all (length all) c.args.i c.index-actuals-i.result refl c.requires.next c.index-actuals-i.is ∙ ap Some c.in-Whole.is in
    frame_on c.args.routine.now all c.args.i c.args.self.now.names.now vs c.requires.framed
    (λ m d lt z e. c.is_due.ensures.cells c.if-is_due.false d (ap (λ n. (get_or vs n d).cells.items) (same_whole (slice_get all c.args.i) k m at z) ∙ e))

-- ---- a cell

pub returns-then-is_written-clause-framed : goal.returns-then-is_written-clause-framed
returns-then-is_written-clause-framed g c =
    let vs = c.args.self.now.slots.items in
    let all = c.args.actuals.now in
    let k = c.in-Cell.k in
    let v = c.index_mut-target-then-is_written.result.now in
    let value = c.index_mut-target-then-is_written.ensures.value in
    let at = slice_get_read all (length all) c.args.i c.index-actuals-i.result refl c.requires.next c.index-actuals-i.is ∙ ap Some c.in-Cell.is in
    cell_frame c.args.routine.now all c.args.i c.args.self.now.names.now vs c.requires.framed k c.in-Cell.cell c.in-Cell.field-2 c.put.new.self v at (within_cell vs all c.args.i k c.in-Cell.cell c.in-Cell.field-2 c.requires.below at).0
    (c.put.ensures.shape ∙ ap slot_shape value) (c.put.ensures.count ∙ ap (λ (z : Slot _). length z.cells.items) value)

pub returns-then-is_written-clause-shapes : goal.returns-then-is_written-clause-shapes
returns-then-is_written-clause-shapes g c =
    let vs = c.args.self.now.slots.items in
    let all = c.args.actuals.now in
    let k = c.in-Cell.k in
    let at = slice_get_read all (length all) c.args.i c.index-actuals-i.result refl c.requires.next c.index-actuals-i.is ∙ ap Some c.in-Cell.is in
    set_shapes vs k c.put.new.self c.index_mut-target-then-is_written.result.now (within_cell vs all c.args.i k c.in-Cell.cell c.in-Cell.field-2 c.requires.below at).0 (c.put.ensures.shape ∙ ap slot_shape c.index_mut-target-then-is_written.ensures.value)

pub returns-then-is_written-clause-handed : goal.returns-then-is_written-clause-handed
returns-then-is_written-clause-handed g c a shape s t h q own =
    let names = c.args.self.now.names.now in
    let r = c.args.routine.now in
    let vs = c.args.self.now.slots.items in
    let all = c.args.actuals.now in
    let i = c.args.i in
    let k = c.in-Cell.k in
    let e = c.put.new.self in
    let v = c.index_mut-target-then-is_written.result.now in
    let value = c.index_mut-target-then-is_written.ensures.value in
    let w = c.index-slots-i-then-is_written.result in
    let written = sym c.is_written.ensures ∙ c.if-is_written.true in
    let at = slice_get_read all (length all) i c.index-actuals-i.result refl c.requires.next c.index-actuals-i.is ∙ ap Some c.in-Cell.is in
    let within = within_cell vs all i k c.in-Cell.cell c.in-Cell.field-2 c.requires.below at in
    let word = c.first-number.ensures ∙ sym (q w 0 (written_dummy r i written) (size_positive (slot_shape (get_or c.args.slots.now i w)))) in
    let shaped = c.put.ensures.shape ∙ ap slot_shape value in
    subst (λ b. ShowsHeld g.N.Number.numbers names (set vs k e) shape (if b then put (place_of names (get_or all i a)) (t (var_at r.names i)) s else s)) (sym written)
    (subst (λ z. ShowsHeld g.N.Number.numbers names (set vs k e) shape (put (place_of names z) (t (var_at r.names i)) s)) (sym (get_or_from_slice_get all i (actual.Cell k c.in-Cell.cell c.in-Cell.field-2) a at))
    (subst (λ z. ShowsHeld g.N.Number.numbers names (set vs k e) shape (store.set s (var_at names k) c.in-Cell.cell z)) word
    (cell_shows g.N.Number.numbers names vs shape s h c.requires.framed.apart c.requires.framed.each k e v within.0 shaped c.in-Cell.cell c.first-number.result
    (cell_had r all i names vs c.requires.framed k c.in-Cell.cell c.in-Cell.field-2 e v at within.0 shaped (c.put.ensures.count ∙ ap (λ (z : Slot _). length z.cells.items) value))
    (c.requires.framed.sized k v within.0) (within.1 v)
    (λ lt. c.put.ensures.cells (subst (λ (z : Slot _). c.in-Cell.cell < length z.cells.items) (sym value) lt) ∙ ap (λ (z : Slot _). set z.cells.items c.in-Cell.cell c.first-number.result) value))))

pub returns-else-is_written-clause-framed : goal.returns-else-is_written-clause-framed
returns-else-is_written-clause-framed g c =
    let all = c.args.actuals.now in
    let at = slice_get_read all (length all) c.args.i c.index-actuals-i.result refl c.requires.next c.index-actuals-i.is ∙ ap Some c.in-Cell.is in
    frame_on c.args.routine.now all c.args.i c.args.self.now.names.now c.args.self.now.slots.items c.requires.framed (λ m d lt z e. not_cell (slice_get all c.args.i) c.in-Cell.k c.in-Cell.cell m c.in-Cell.field-2 at z)

-- ---- a word

pub returns-in-Word-clause-framed : goal.returns-in-Word-clause-framed
returns-in-Word-clause-framed g c =
    let all = c.args.actuals.now in
    let at = slice_get_read all (length all) c.args.i c.index-actuals-i.result refl c.requires.next c.index-actuals-i.is ∙ ap Some c.in-Word.is in
    frame_on c.args.routine.now all c.args.i c.args.self.now.names.now c.args.self.now.slots.items c.requires.framed (λ m d lt z e. not_word (slice_get all c.args.i) m c.in-Word.field-0 at z)

pub returns-in-Word-clause-handed : goal.returns-in-Word-clause-handed
returns-in-Word-clause-handed g c a shape s t h q own = go (is_written_at c.args.routine.now c.args.i)
  where
    at : slice_get c.args.actuals.now c.args.i ≡ Some (actual.Word c.in-Word.field-0)
    at = slice_get_read c.args.actuals.now (length c.args.actuals.now) c.args.i c.index-actuals-i.result refl c.requires.next c.index-actuals-i.is ∙ ap Some c.in-Word.is

    go : (b : Bool) → ShowsHeld g.N.Number.numbers c.args.self.now.names.now c.args.self.now.slots.items shape (if b then put (place_of c.args.self.now.names.now (get_or c.args.actuals.now c.args.i a)) (t (var_at c.args.routine.now.names c.args.i)) s else s)
    go true = subst (λ z. ShowsHeld g.N.Number.numbers c.args.self.now.names.now c.args.self.now.slots.items shape (put (place_of c.args.self.now.names.now z) (t (var_at c.args.routine.now.names c.args.i)) s)) (sym (get_or_from_slice_get c.args.actuals.now c.args.i (actual.Word c.in-Word.field-0) a at)) h
    go false = h
