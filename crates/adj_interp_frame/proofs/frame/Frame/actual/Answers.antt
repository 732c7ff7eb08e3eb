use Rattle.std.proofs.Common.{rules, ◌≡◌, ◌<◌, length, get_or, refl, sym, ap, ◌∙◌, arith}
use Rattle.std.specs.Prelude.{Ok, Err}
use Rattle.std.proofs.lemmas.List.{get_or_default}
use Rattle.def_meaning.specs.Value.{values}
use Rattle.def_meaning.specs.Units.{one_word, cell}
use Rattle.adj_interp_frame.specs.declared.slot.Slot.{Slot}
use Rattle.adj_interp_frame.specs.Prepared.{var_at, terms_in}
use Rattle.adj_interp_frame.specs.Framed.{zero_in, store_in, setting_in_slots}
use Rattle.adj_interp_frame.specs.Shown.{on_numbers}
use Rattle.adj_interp_frame.specs.Called.{actual_in, result_as}
use Rattle.adj_interp_frame.proofs.Reading.{cell_there}
use Rattle.adj_interp_frame.proofs.Giving.{word_at, elem_err, elem_ok, shown_cell}
use Rattle.adj_interp_frame.proofs.frame.Frame.actual.Goals as goal

pub returns-in-Lit-clause-actual : goal.returns-in-Lit-clause-actual
returns-in-Lit-clause-actual g c shape room level s h = word_at c.args.self.now.names.now (on_numbers g.N.Number.numbers shape room level) s _ c.args.term.now _ (c.word.ensures.word shape room level s h) c.in-Lit.is refl

pub returns-in-Neg-clause-actual : goal.returns-in-Neg-clause-actual
returns-in-Neg-clause-actual g c shape room level s h = word_at c.args.self.now.names.now (on_numbers g.N.Number.numbers shape room level) s _ c.args.term.now _ (c.word-in-Neg.ensures.word shape room level s h) c.in-Neg.is refl

pub returns-in-Bin-clause-actual : goal.returns-in-Bin-clause-actual
returns-in-Bin-clause-actual g c shape room level s h = word_at c.args.self.now.names.now (on_numbers g.N.Number.numbers shape room level) s _ c.args.term.now _ (c.word-in-Bin.ensures.word shape room level s h) c.in-Bin.is refl

pub returns-in-Pow-clause-actual : goal.returns-in-Pow-clause-actual
returns-in-Pow-clause-actual g c shape room level s h = word_at c.args.self.now.names.now (on_numbers g.N.Number.numbers shape room level) s _ c.args.term.now _ (c.word-in-Pow.ensures.word shape room level s h) c.in-Pow.is refl

pub returns-in-Power-clause-actual : goal.returns-in-Power-clause-actual
returns-in-Power-clause-actual g c shape room level s h = word_at c.args.self.now.names.now (on_numbers g.N.Number.numbers shape room level) s _ c.args.term.now _ (c.word-in-Power.ensures.word shape room level s h) c.in-Power.is refl

pub returns-in-Abs-clause-actual : goal.returns-in-Abs-clause-actual
returns-in-Abs-clause-actual g c shape room level s h = word_at c.args.self.now.names.now (on_numbers g.N.Number.numbers shape room level) s _ c.args.term.now _ (c.word-in-Abs.ensures.word shape room level s h) c.in-Abs.is refl

pub index-requires-in-Elem : goal.index-requires-in-Elem
index-requires-in-Elem g c =
    let names = c.args.self.now.names.now in
    let vs = c.args.self.now.slots.items in
    let v = c.index.result.now in
    let below = rw c.in-Elem.is at c.requires.below in
    let there = cell_there g.N.Number.numbers names vs c.in-Elem.i v (values (setting_in_slots g.N.Number.numbers names vs) (terms_in names c.in-Elem.subs) (store_in g.N.Number.numbers names vs)) c.in_ok-cell-in-Elem.cell c.requires.framed below.0 c.in_ok-cell-in-Elem.ensures.cell in
    let same = ap (λ (w : Slot _). length w.cells.items) c.index.ensures in
    let whole = c.index.result.now.cells.ok in
    omega (arith, there, same, whole)

pub returns-in_err-cell-in-Elem-clause-actual : goal.returns-in_err-cell-in-Elem-clause-actual
returns-in_err-cell-in-Elem-clause-actual g c shape room level s h =
    let names = c.args.self.now.names.now in
    let r : c.from_residual.result ≡ Err c.in_err-cell-in-Elem.field-0.0 = search rules in
    rw c.in-Elem.is (ap (result_as (actual_in names shape s)) r ∙ sym (elem_err g.N.Number.numbers names c.args.self.now.slots.items shape room level s h (var_at names c.in-Elem.i) (terms_in names c.in-Elem.subs) c.in_err-cell-in-Elem.field-0.0 c.in_err-cell-in-Elem.ensures.cell))

pub returns-in_ok-cell-in-Elem-clause-actual : goal.returns-in_ok-cell-in-Elem-clause-actual
returns-in_ok-cell-in-Elem-clause-actual g c shape room level s h =
    let names = c.args.self.now.names.now in
    let vs = c.args.self.now.slots.items in
    let i = c.in-Elem.i in
    let j = c.in_ok-cell-in-Elem.cell in
    let v = c.index.result.now in
    let x = var_at names i in
    let below = rw c.in-Elem.is at c.requires.below in
    let there = cell_there g.N.Number.numbers names vs i v (values (setting_in_slots g.N.Number.numbers names vs) (terms_in names c.in-Elem.subs) (store_in g.N.Number.numbers names vs)) j c.requires.framed below.0 c.in_ok-cell-in-Elem.ensures.cell in
    let same = ap (λ (w : Slot _). length w.cells.items) c.index.ensures in
    let within : c.in_ok-cell-in-Elem.cell < length c.index.result.now.cells.items = omega (arith, there, same) in
    let word = c.index-in-Elem.ensures ∙ get_or_default v.cells.items j c.index-in-Elem.result.now (zero_in g.N.Number.numbers) within ∙ ap (λ (w : Slot _). get_or w.cells.items j (zero_in g.N.Number.numbers)) c.index.ensures
    ∙ sym (shown_cell g.N.Number.numbers names vs shape s h i v j c.requires.framed below.0 there) in
    rw c.in-Elem.is (ap (λ w. Ok (one_word w (cell x j))) word ∙ sym (elem_ok g.N.Number.numbers names vs shape room level s h x (terms_in names c.in-Elem.subs) j c.in_ok-cell-in-Elem.ensures.cell))

pub returns-in_ok-cell-in-Elem-clause-below : goal.returns-in_ok-cell-in-Elem-clause-below
returns-in_ok-cell-in-Elem-clause-below g c =
    let names = c.args.self.now.names.now in
    let vs = c.args.self.now.slots.items in
    let below = rw c.in-Elem.is at c.requires.below in
    (below.0, λ d. cell_there g.N.Number.numbers names vs c.in-Elem.i d (values (setting_in_slots g.N.Number.numbers names vs) (terms_in names c.in-Elem.subs) (store_in g.N.Number.numbers names vs)) c.in_ok-cell-in-Elem.cell c.requires.framed below.0 c.in_ok-cell-in-Elem.ensures.cell)
