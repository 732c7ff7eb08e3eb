use Rattle.std.proofs.Common.{◌≡◌, ◌<◌, length, get_or, ap, subst, sym, ◌∙◌}
use Rattle.std.proofs.lemmas.List.{get_or-replicate, length-replicate}
use Rattle.def_meaning.specs.Store.{size_of}
use Rattle.adj_interp_frame.specs.declared.slot.Slot.{Slot}
use Rattle.adj_interp_frame.specs.Framed.{zero_in, IsSlot, slot_shape}
use Rattle.adj_interp_frame.proofs.Setting.{kept_frame, kept_counts, shown_set_all}
use Rattle.adj_interp_frame.proofs.frame.Frame.clear.Goals as goal

-- a cleared slot has its cells
cleared : {C : Type 0} (a b : Slot C) → IsSlot a → slot_shape b ≡ slot_shape a → length b.cells.items ≡ length a.cells.items → IsSlot b
cleared a b s h l = l ∙ s ∙ ap size_of (sym h)

pub returns-clause-framed : goal.returns-clause-framed
returns-clause-framed g c =
    let vs = c.args.self.now.slots.items in
    let r = c.index_mut.result.now in
    let was = subst IsSlot (sym c.index_mut.ensures.value) (c.requires.framed.sized c.args.i r c.requires.there) in
    let cells = ap length c.clear.ensures.cells ∙ length-replicate (length r.cells.items) (zero_in g.N.Number.numbers) in
    kept_frame c.args.self.now.names.now vs c.args.i c.clear.new.self c.requires.framed c.requires.there (cleared r c.clear.new.self was c.clear.ensures.shape cells)

pub returns-clause-counts : goal.returns-clause-counts
returns-clause-counts g c =
    let r = c.index_mut.result.now in
    kept_counts c.args.self.now.slots.items c.args.i c.clear.new.self r c.requires.there (ap length c.clear.ensures.cells ∙ length-replicate (length r.cells.items) (zero_in g.N.Number.numbers) ∙ ap (λ (v : Slot _). length v.cells.items) c.index_mut.ensures.value)

pub returns-clause-shown : goal.returns-clause-shown
returns-clause-shown g c shape s h =
    let vs = c.args.self.now.slots.items in
    let r = c.index_mut.result.now in
    let was = subst IsSlot (sym c.index_mut.ensures.value) (c.requires.framed.sized c.args.i r c.requires.there) in
    let like = c.clear.ensures.shape in
    let size = ap size_of like ∙ sym was in
    shown_set_all g.N.Number.numbers c.args.self.now.names.now vs c.args.i c.clear.new.self r (λ j. zero_in g.N.Number.numbers) c.requires.framed c.requires.there (like ∙ ap slot_shape c.index_mut.ensures.value)
    (λ j lt. sym (ap (λ z. get_or z j (zero_in g.N.Number.numbers)) c.clear.ensures.cells ∙ get_or-replicate (length r.cells.items) j (zero_in g.N.Number.numbers) (zero_in g.N.Number.numbers) (subst (λ z. j < z) size lt)))
    shape s h
