use Rattle.std.proofs.Common.{◌≡◌, ◌+◌, ◌*◌, ◌∷◌, ◌∙◌, [], Some, w64, ap, sym, arith}
use Rattle.std.proofs.lemmas.Int.{to_z-of_z}
use Rattle.def_meaning.specs.Store.{within, cell_of, by_column}
use Rattle.def_meaning.proofs.Cells.{cell_below}
use Rattle.adj_interp_frame.specs.Framed.{slot_shape}
use Rattle.adj_interp_frame.proofs.slot.Slot.in_table.Goals as goal

pub overflow_mul-result : goal.overflow_mul-result
overflow_mul-result g c =
    let v = c.args.self.now in
    let i = c.in-Some-Some.i in
    let j = c.in-Some-Some.j in
    let e : within c.args.row v.rows ≡ Some i = ap (λ z. within z v.rows) (sym (to_z-of_z w64 c.args.row c.ranges.row)) ∙ sym c.within.ensures ∙ c.in-Some-Some.is-0 in
    let f : within c.args.column v.cols ≡ Some j = ap (λ z. within z v.cols) (sym (to_z-of_z w64 c.args.column c.ranges.column)) ∙ sym c.within-2.ensures ∙ c.in-Some-Some.is-1 in
    let g : cell_of (slot_shape v) (c.args.row ∷ c.args.column ∷ []) ≡ Some (i + j * v.rows) = (λ k. by_column v.rows (e k) (f k)) in
    let b = cell_below (slot_shape v) (c.args.row ∷ c.args.column ∷ []) (i + j * v.rows) g in
    let small = v.cells.small in
    let len = c.requires in
    let whole = v.cells.ok in
    omega (arith, b, small, len, whole)

pub overflow_add-result : goal.overflow_add-result
overflow_add-result g c =
    let v = c.args.self.now in
    let i = c.in-Some-Some.i in
    let j = c.in-Some-Some.j in
    let e : within c.args.row v.rows ≡ Some i = ap (λ z. within z v.rows) (sym (to_z-of_z w64 c.args.row c.ranges.row)) ∙ sym c.within.ensures ∙ c.in-Some-Some.is-0 in
    let f : within c.args.column v.cols ≡ Some j = ap (λ z. within z v.cols) (sym (to_z-of_z w64 c.args.column c.ranges.column)) ∙ sym c.within-2.ensures ∙ c.in-Some-Some.is-1 in
    let g : cell_of (slot_shape v) (c.args.row ∷ c.args.column ∷ []) ≡ Some (i + j * v.rows) = (λ k. by_column v.rows (e k) (f k)) in
    let b = cell_below (slot_shape v) (c.args.row ∷ c.args.column ∷ []) (i + j * v.rows) g in
    let small = v.cells.small in
    let len = c.requires in
    let whole = v.cells.ok in
    omega (arith, b, small, len, whole)
