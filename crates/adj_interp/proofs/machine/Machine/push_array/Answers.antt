use Rattle.std.proofs.Common.{rules, ◌≡◌, ◌<◌, ◌≤◌, ◌-◌, ℕ, length, get_or, refl, sym, ap, subst, ◌∙◌, arith}
use Rattle.std.specs.Prelude.{Ok, Err}
use Rattle.std.proofs.lemmas.List.{get_or_default}
use Rattle.def_meaning.specs.Numbers.{Numbers}
use Rattle.def_meaning.specs.Store.{cells_from}
use Rattle.def_meaning.specs.Scene.{Scene, pushed_all}
use Rattle.adj_interp_frame.specs.declared.slot.Slot.{Slot}
use Rattle.adj_interp_frame.specs.declared.frame.Frame.{Frame}
use Rattle.adj_interp.specs.declared.machine.Machine.{Machine}
use Rattle.adj_interp_frame.specs.Prepared.{var_at}
use Rattle.adj_interp_frame.specs.Framed.{zero_in, IsFrame}
use Rattle.adj_interp.specs.Held.{Entry, setting_at, Holds, Ends, Reaches}
use Rattle.adj_interp.proofs.Driving.{reaches_start}
use Rattle.adj_interp.proofs.Serving.{counted_cells, held_cell, all_next, all_break, all_end}
use Rattle.adj_interp.proofs.machine.Machine.push_array.Goals as goal

-- a cell that is read in a slot holds what the variable does
cell_read : {C : Type 0} {numbers : Numbers C} (e : Entry numbers) (m : Machine C) (fr : Frame C) (s : Scene C) (i j : ℕ) (d d2 : Slot C) (w : C) → Holds e m s → IsFrame m.frame.names.now m.frame.slots.items → i < length m.frame.names.now → d ≡ get_or m.frame.slots.items i d → fr ≡ m.frame → d2 ≡ get_or fr.slots.items i d2 → j < length d.cells.items → w ≡ get_or d2.cells.items j w → s.store (var_at m.frame.names.now i) j ≡ w
cell_read {numbers = numbers} e m fr s i j d d2 w h f below at same at2 lt read =
    let each = f.each in
    let there : i < length m.frame.slots.items = omega (arith, each, below) in
    let one : get_or m.frame.slots.items i d ≡ d2 = get_or_default m.frame.slots.items i d d2 there ∙ ap (λ (z : Frame _). get_or z.slots.items i d2) (sym same) ∙ sym at2 in
    let within : j < length (get_or m.frame.slots.items i d).cells.items = subst (λ (v : Slot _). j < length v.cells.items) at lt in
    let in_slot : j < length d2.cells.items = subst (λ (v : Slot _). j < length v.cells.items) one within in
    held_cell e m s i d h f there j within ∙ ap (λ (v : Slot _). get_or v.cells.items j (zero_in numbers)) one ∙ get_or_default d2.cells.items j (zero_in numbers) w in_slot ∙ sym read

pub loop-cell-init : goal.loop-cell-init
loop-cell-init g c = record {
  room = refl;
  frame = refl;
  reached = λ e s h.
      let m = c.args.self.now in
      let f = s.store (var_at m.frame.names.now c.args.variable) in
      let count = c.len-count.result in
      let all : count ≡ count - 0 = omega arith in
      subst (λ j. Reaches e (pushed_all (setting_at e) (cells_from f 0 count) s) m.left (pushed_all (setting_at e) (cells_from f 0 j)) m) all (reaches_start e (pushed_all (setting_at e) (cells_from f 0 count)) m s h);
}

pub returns-in_err-push-clause-ends : goal.returns-in_err-push-clause-ends
returns-in_err-push-clause-ends g c line e s h =
    let m = c.args.self.now in
    let x = var_at m.frame.names.now c.args.variable in
    let f = s.store x in
    let d = c.index.result.now in
    let framed = c.requires.framed in
    let each = framed.each in
    let below = c.requires.there in
    let there : c.args.variable < length m.frame.slots.items = omega (arith, each, below) in
    let count = c.len-count.result in
    let counted : count ≡ length d.cells.items = search rules in
    let i = c.loop-cell.cell in
    let w = c.index-number.result.now in
    let o = pushed_all (setting_at e) (cells_from f 0 count) s in
    let lt = c.loop-cell-test.true in
    let r : c.from_residual.result ≡ Err c.in_err-push.field-0.0 = search rules in
    let read = cell_read e m c.loop-cell.self.frame s c.args.variable i d c.index-in-loop-cell.result.now w h c.requires.framed c.requires.there c.index.ensures c.loop-cell.invariant.frame c.index-in-loop-cell.ensures (subst (λ z. i < z) counted lt) c.index-number.ensures in
    subst (λ j. Ends e (pushed_all (setting_at e) (cells_from f 0 j) s) m.left c.from_residual.result c.push.new.self) (counted_cells e m s c.args.variable d h c.requires.framed there count c.index.ensures counted)
    (subst (λ z. Ends e o m.left z c.push.new.self) (sym r)
    (all_break e f i count w o c.in_err-push.field-0.0 c.loop-cell.self c.push.new.self lt read (c.loop-cell.invariant.reached e s h)
    (λ z g. c.in_err-push.ensures.ends e z g)))

pub loop-cell-preserved : goal.loop-cell-preserved
loop-cell-preserved g c = record {
  room = c.in_ok-push.ensures.room ∙ c.loop-cell.invariant.room;
  frame = c.in_ok-push.ensures.frame ∙ c.loop-cell.invariant.frame;
  reached = λ e s h.
      let m = c.args.self.now in
      let f = s.store (var_at m.frame.names.now c.args.variable) in
      let d = c.index.result.now in
      let count = c.len-count.result in
      let counted : count ≡ length d.cells.items = search rules in
      let i = c.loop-cell.cell in
      let w = c.index-number.result.now in
      let o = pushed_all (setting_at e) (cells_from f 0 count) s in
      let lt = c.loop-cell-test.true in
      let read = cell_read e m c.loop-cell.self.frame s c.args.variable i d c.index-in-loop-cell.result.now w h c.requires.framed c.requires.there c.index.ensures c.loop-cell.invariant.frame c.index-in-loop-cell.ensures (subst (λ z. i < z) counted lt) c.index-number.ensures in
      all_next e f i count w o c.in_ok-push.field-0 c.loop-cell.self c.push.new.self lt read (c.loop-cell.invariant.reached e s h)
      (λ z g. c.in_ok-push.ensures.ends e z g);
}

pub returns-clause-ends : goal.returns-clause-ends
returns-clause-ends g c line e s h =
    let m = c.args.self.now in
    let f = s.store (var_at m.frame.names.now c.args.variable) in
    let d = c.index.result.now in
    let framed = c.requires.framed in
    let each = framed.each in
    let below = c.requires.there in
    let there : c.args.variable < length m.frame.slots.items = omega (arith, each, below) in
    let count = c.len-count.result in
    let counted : count ≡ length d.cells.items = search rules in
    let i = c.loop-cell.cell in
    let o = pushed_all (setting_at e) (cells_from f 0 count) s in
    let over : count ≤ i = omega arith in
    subst (λ j. Ends e (pushed_all (setting_at e) (cells_from f 0 j) s) m.left (Ok tt) c.loop-cell.self) (counted_cells e m s c.args.variable d h c.requires.framed there count c.index.ensures counted)
    (all_end e f i count o tt c.loop-cell.self over (c.loop-cell.invariant.reached e s h))
