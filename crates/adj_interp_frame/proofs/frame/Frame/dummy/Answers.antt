use Rattle.std.proofs.Common.{◌<◌, length, get_or, sym, ap, subst, ◌∙◌}
use Rattle.std.proofs.lemmas.List.{get_or_default}
use Rattle.def_meaning.specs.Store.{size_of}
use Rattle.adj_interp_frame.specs.declared.slot.Slot.{Slot}
use Rattle.adj_interp_frame.specs.Prepared.{var_at}
use Rattle.adj_interp_frame.specs.Framed.{zero_in, IsSlot, slot_shape}
use Rattle.adj_interp_frame.specs.Called.{actual_in, words_in, is_fit}
use Rattle.adj_interp_frame.proofs.Reading.{read_shape}
use Rattle.adj_interp_frame.proofs.Giving.{shown_cell}
use Rattle.adj_interp_frame.proofs.Entering.{unfit_array, fit_array, fit_shape}
use Rattle.adj_interp_frame.proofs.frame.Frame.dummy.Goals as goal

pub returns-then-not-fits : goal.returns-then-not-fits
returns-then-not-fits g c =
    let names = c.args.self.now.names.now in
    let vs = c.args.self.now.slots.items in
    let i = c.in-Whole.i in
    let v = c.index.result.now in
    let below = rw c.in-Whole.is at c.requires.below in
    record {
      sized = tt;
      shape = tt;
      cells = tt;
      fits = tt;
      unfit = λ q shape s h.
          let shaped = ap (λ a. (actual_in names shape s a).shape) c.in-Whole.is ∙ h.shapes (var_at names i) ∙ read_shape names vs i v c.requires.framed below ∙ ap slot_shape (sym c.index.ensures) in
          ap (is_fit (words_in c.args.area)) shaped ∙ unfit_array c.args.area c.in_default.not-Scalar (slot_shape v) (sym c.fits.ensures ∙ c.if-not-fits.true);
    }

pub returns : goal.returns
returns g c =
    let names = c.args.self.now.names.now in
    let vs = c.args.self.now.slots.items in
    let i = c.in-Whole.i in
    let v = c.index.result.now in
    let w = c.index-2.result.now in
    let f = c.in_ok-copy.field-0 in
    let below = rw c.in-Whole.is at c.requires.below in
    let same = c.index-2.ensures ∙ get_or_default vs i w v below ∙ sym c.index.ensures in
    let sized = subst IsSlot (sym c.index-2.ensures) (c.requires.framed.sized i w below) in
    let shape_kept = c.in_ok-copy.ensures.shape in
    let fit = sym c.fits.ensures ∙ c.if-not-fits.false in
    record {
      sized = ap length c.in_ok-copy.ensures.cells ∙ sized ∙ ap size_of (sym shape_kept);
      shape = shape_kept ∙ ap slot_shape same ∙ fit_shape (words_in c.args.area) (slot_shape v) fit;
      cells = λ shape s h j lt.
          let there : j < length (get_or vs i w).cells.items = subst (λ n. j < n) (ap size_of (shape_kept ∙ ap slot_shape c.index-2.ensures) ∙ sym (c.requires.framed.sized i w below)) lt in
          ap (λ a. (actual_in names shape s a).cells j) c.in-Whole.is ∙ shown_cell g.N.Number.numbers names vs shape s h i w j c.requires.framed below there ∙ ap (λ (z : Slot _). get_or z.cells.items j (zero_in g.N.Number.numbers)) (sym c.index-2.ensures) ∙ ap (λ z. get_or z j (zero_in g.N.Number.numbers)) (sym c.in_ok-copy.ensures.cells);
      fits = λ shape s h.
          let shaped = ap (λ a. (actual_in names shape s a).shape) c.in-Whole.is ∙ h.shapes (var_at names i) ∙ read_shape names vs i v c.requires.framed below ∙ ap slot_shape (sym c.index.ensures) in
          ap (is_fit (words_in c.args.area)) shaped ∙ fit_array c.args.area (slot_shape v) fit;
      unfit = λ q. absurd cc;
    }
