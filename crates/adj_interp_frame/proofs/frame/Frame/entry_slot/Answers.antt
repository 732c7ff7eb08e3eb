use Rattle.std.proofs.Common.{rules, ◌≡◌, ◌+◌, ◌<◌, length, get_or, sym, ap, subst, ◌∙◌}
use Rattle.std.specs.Prelude.{◌&&◌, Err}
use Rattle.std.proofs.lemmas.List.{get_or-replicate}
use Rattle.def_meaning.specs.Units.{shape_of}
use Rattle.adj_interp_frame.specs.declared.actual.Actual.TheVariants as actual
use Rattle.adj_interp_frame.specs.Prepared.{var_at}
use Rattle.adj_interp_frame.specs.Framed.{slot_shape, zero_in}
use Rattle.adj_interp_frame.specs.Called.{actuals_in, words_in, is_fit, fit_from}
use Rattle.adj_interp_frame.proofs.Reading.{read_shape}
use Rattle.adj_interp_frame.proofs.Entering.{given_below, given_cells, none_cells, given_fit, none_fit, fit_array, unfit_array, fit_shape}
use Rattle.adj_interp_frame.proofs.Borrowing.{given_get, below_at, some_slot, not_empty, own_slot, own_entered, lent_slot, lent_entered}
use Rattle.adj_interp_frame.proofs.frame.Frame.entry_slot.Goals as goal

-- ---- a dummy to which cells are lent

pub returns-in-Some-clause-lent : goal.returns-in-Some-clause-lent
returns-in-Some-clause-lent g c e = record { variable = c.in-Some.variable; lent = c.in-Some.ensures.lent }

pub returns-in-Some-clause-sized : goal.returns-in-Some-clause-sized
returns-in-Some-clause-sized g c u f =
    let vs = c.args.self.now.slots.items in
    let all = c.args.actuals.now in
    let k = c.in-Some.variable in
    let b = c.in_ok-borrowed.ensures in
    let at = given_get (length c.args.routine.now.unit.now.dummies) all c.args.i (actual.Whole k) c.in-Some.ensures.lent.given in
    lent_slot vs all c.args.i c.in_ok-borrowed.borrowed u f c.args.self.now.names.now k u c.requires.framed (below_at vs all c.args.i k c.requires.below at) (b.shape u) b.empty at

pub returns-in-Some-clause-entered : goal.returns-in-Some-clause-entered
returns-in-Some-clause-entered g c u f shape s h =
    let vs = c.args.self.now.slots.items in
    let all = c.args.actuals.now in
    let k = c.in-Some.variable in
    let v = c.in_ok-borrowed.borrowed in
    let b = c.in_ok-borrowed.ensures in
    let lent = c.in-Some.ensures.lent in
    let at = given_get (length c.args.routine.now.unit.now.dummies) all c.args.i (actual.Whole k) lent.given in
    lent_entered g.N.Number.numbers vs all c.args.i v u f c.args.routine.now c.args.self.now.names.now shape s c.requires.laid k u c.requires.there c.requires.framed h (below_at vs all c.args.i k c.requires.below at) (b.shape u)
    (fit_shape (words_in c.area-area.result) (slot_shape v) b.fits ∙ ap shape_of (c.area-area.ensures shape s h)) b.empty lent

pub returns-in-Some-clause-fits : goal.returns-in-Some-clause-fits
returns-in-Some-clause-fits g c shape s h =
    let vs = c.args.self.now.slots.items in
    let all = c.args.actuals.now in
    let names = c.args.self.now.names.now in
    let k = c.in-Some.variable in
    let v = c.in_ok-borrowed.borrowed in
    let b = c.in_ok-borrowed.ensures in
    let lent = c.in-Some.ensures.lent in
    let at = given_get (length c.args.routine.now.unit.now.dummies) all c.args.i (actual.Whole k) lent.given in
    let there = below_at vs all c.args.i k c.requires.below at in
    let shaped = h.shapes (var_at names k) ∙ read_shape names vs k v c.requires.framed there ∙ sym (b.shape v) in
    given_fit g.N.Number.numbers c.args.routine.now c.requires.laid names shape s all c.args.i (actual.Whole k) _ lent.given (c.area-area.ensures shape s h)
    ∙ ap (λ z. z && fit_from g.N.Number.numbers c.args.routine.now (actuals_in names shape s all) (c.args.i + 1)) (ap (is_fit (words_in c.area-area.result)) shaped ∙ fit_array c.area-area.result (slot_shape v) b.fits)

pub returns-in_err-borrowed-clause-unfit : goal.returns-in_err-borrowed-clause-unfit
returns-in_err-borrowed-clause-unfit g c q shape s h =
    let vs = c.args.self.now.slots.items in
    let all = c.args.actuals.now in
    let names = c.args.self.now.names.now in
    let k = c.in-Some.variable in
    let lent = c.in-Some.ensures.lent in
    let at = given_get (length c.args.routine.now.unit.now.dummies) all c.args.i (actual.Whole k) lent.given in
    let there = below_at vs all c.args.i k c.requires.below at in
    let d = some_slot vs k there in
    let r : c.from_residual.result ≡ Err c.in_err-borrowed.field-0.0 = search rules in
    let shaped = h.shapes (var_at names k) ∙ read_shape names vs k d c.requires.framed there in
    let bad = c.in_err-borrowed.ensures.unfit (sym r ∙ q) d in
    given_fit g.N.Number.numbers c.args.routine.now c.requires.laid names shape s all c.args.i (actual.Whole k) _ lent.given (c.area-area.ensures shape s h)
    ∙ ap (λ z. z && fit_from g.N.Number.numbers c.args.routine.now (actuals_in names shape s all) (c.args.i + 1)) (ap (is_fit (words_in c.area-area.result)) shaped ∙ unfit_array c.area-area.result (λ z. absurd (c.in-Some.ensures.array z)) (slot_shape (get_or vs k d)) bad)

-- ---- one that gets a copy

pub dummy-requires-clause-below : goal.dummy-requires-clause-below
dummy-requires-clause-below g c = given_below c.args.self.now.slots.items (length c.args.routine.now.unit.now.dummies) c.args.actuals.now c.args.i c.in-Some-given.actual c.requires.below (sym c.given.ensures ∙ c.in-Some-given.is)

pub returns-in_ok-slot-in-Some-given-clause-lent : goal.returns-in_ok-slot-in-Some-given-clause-lent
returns-in_ok-slot-in-Some-given-clause-lent g c e = absurd (not_empty c.in_ok-slot-in-Some-given.slot c.in_ok-slot-in-Some-given.ensures.sized e)

pub returns-in_ok-slot-in-Some-given-clause-sized : goal.returns-in_ok-slot-in-Some-given-clause-sized
returns-in_ok-slot-in-Some-given-clause-sized g c u f = own_slot c.args.self.now.slots.items c.args.actuals.now c.args.i c.in_ok-slot-in-Some-given.slot u f c.in_ok-slot-in-Some-given.ensures.sized

pub returns-in_ok-slot-in-Some-given-clause-entered : goal.returns-in_ok-slot-in-Some-given-clause-entered
returns-in_ok-slot-in-Some-given-clause-entered g c u f shape s h =
    let d = c.in_ok-slot-in-Some-given.ensures in
    own_entered g.N.Number.numbers c.args.self.now.slots.items c.args.actuals.now c.args.i c.in_ok-slot-in-Some-given.slot u f c.args.routine.now c.args.self.now.names.now shape s d.sized
    (record {
      shape = d.shape ∙ ap shape_of (c.area-area.ensures shape s h);
      cells = λ j lt. given_cells g.N.Number.numbers c.args.routine.now c.requires.laid c.args.self.now.names.now shape s c.args.actuals.now c.args.i c.requires.there c.in-Some-given.actual j (sym c.given.ensures ∙ c.in-Some-given.is) ∙ d.cells shape s h j lt;
    })

pub returns-in_ok-slot-in-Some-given-clause-fits : goal.returns-in_ok-slot-in-Some-given-clause-fits
returns-in_ok-slot-in-Some-given-clause-fits g c shape s h =
    let got = actuals_in c.args.self.now.names.now shape s c.args.actuals.now in
    given_fit g.N.Number.numbers c.args.routine.now c.requires.laid c.args.self.now.names.now shape s c.args.actuals.now c.args.i c.in-Some-given.actual _ (sym c.given.ensures ∙ c.in-Some-given.is) (c.area-area.ensures shape s h)
    ∙ ap (λ b. b && fit_from g.N.Number.numbers c.args.routine.now got (c.args.i + 1)) (c.in_ok-slot-in-Some-given.ensures.fits shape s h)

pub returns-in_err-slot-in-Some-given-clause-unfit : goal.returns-in_err-slot-in-Some-given-clause-unfit
returns-in_err-slot-in-Some-given-clause-unfit g c q shape s h =
    let got = actuals_in c.args.self.now.names.now shape s c.args.actuals.now in
    let r : c.from_residual-in_err-slot-in-Some-given.result ≡ Err c.in_err-slot-in-Some-given.field-0.0 = search rules in
    given_fit g.N.Number.numbers c.args.routine.now c.requires.laid c.args.self.now.names.now shape s c.args.actuals.now c.args.i c.in-Some-given.actual _ (sym c.given.ensures ∙ c.in-Some-given.is) (c.area-area.ensures shape s h)
    ∙ ap (λ b. b && fit_from g.N.Number.numbers c.args.routine.now got (c.args.i + 1)) (c.in_err-slot-in-Some-given.ensures.unfit (sym r ∙ q) shape s h)

-- ---- any other variable

pub returns-in_ok-zeros-in-None-clause-lent : goal.returns-in_ok-zeros-in-None-clause-lent
returns-in_ok-zeros-in-None-clause-lent g c e = absurd (not_empty c.in_ok-zeros-in-None.field-0 c.in_ok-zeros-in-None.ensures.sized e)

pub returns-in_ok-zeros-in-None-clause-sized : goal.returns-in_ok-zeros-in-None-clause-sized
returns-in_ok-zeros-in-None-clause-sized g c u f = own_slot c.args.self.now.slots.items c.args.actuals.now c.args.i c.in_ok-zeros-in-None.field-0 u f c.in_ok-zeros-in-None.ensures.sized

pub returns-in_ok-zeros-in-None-clause-entered : goal.returns-in_ok-zeros-in-None-clause-entered
returns-in_ok-zeros-in-None-clause-entered g c u f shape s h =
    let z = c.in_ok-zeros-in-None.ensures in
    let v = c.in_ok-zeros-in-None.field-0 in
    own_entered g.N.Number.numbers c.args.self.now.slots.items c.args.actuals.now c.args.i v u f c.args.routine.now c.args.self.now.names.now shape s z.sized
    (record {
      shape = z.shape ∙ ap shape_of (c.area-area.ensures shape s h);
      cells = λ j lt. none_cells g.N.Number.numbers c.args.routine.now c.requires.laid c.args.self.now.names.now shape s c.args.actuals.now c.args.i c.requires.there j (sym c.given.ensures ∙ c.in-None.is)
          ∙ sym (ap (λ cs. get_or cs j (zero_in g.N.Number.numbers)) z.zeros ∙ get_or-replicate (length v.cells.items) j (zero_in g.N.Number.numbers) (zero_in g.N.Number.numbers) (subst (λ n. j < n) (sym z.sized) lt));
    })

pub returns-in_ok-zeros-in-None-clause-fits : goal.returns-in_ok-zeros-in-None-clause-fits
returns-in_ok-zeros-in-None-clause-fits g c shape s h = none_fit g.N.Number.numbers c.args.routine.now c.requires.laid c.args.self.now.names.now shape s c.args.actuals.now c.args.i (sym c.given.ensures ∙ c.in-None.is)
