use Rattle.std.proofs.Common.{length, ap, sym, ◌∙◌}
use Rattle.std.proofs.Math.ListN.{set, length-set}
use Rattle.def_meaning.specs.Store.{size_of}
use Rattle.adj_interp_frame.specs.declared.slot.Slot.{Slot}
use Rattle.adj_interp_frame.specs.Framed.{slot_shape}
use Rattle.adj_interp_frame.proofs.Setting.{kept_frame, kept_sizes, kept_counts, shown_set}
use Rattle.adj_interp_frame.proofs.frame.Frame.set.Goals as goal

pub returns-clause-framed : goal.returns-clause-framed
returns-clause-framed g c =
    let r = c.index_mut-slot.result.now in
    let at = c.index_mut-slot.ensures.value in
    let sized = ap (λ (v : Slot _). length v.cells.items) at ∙ c.requires.framed.sized c.args.i r c.requires.there ∙ ap (λ (v : Slot _). size_of (slot_shape v)) (sym at) in
    kept_frame c.args.self.now.names.now c.args.self.now.slots.items c.args.i _ c.requires.framed c.requires.there (length-set r.cells.items c.args.cell _ ∙ sized)

pub returns-clause-shown : goal.returns-clause-shown
returns-clause-shown g c shape s h =
    let r = c.index_mut-slot.result.now in
    let at = c.index_mut-slot.ensures.value in
    shown_set g.N.Number.numbers c.args.self.now.names.now c.args.self.now.slots.items c.args.i _ r c.args.cell c.args.number c.requires.framed c.requires.there (ap (λ (v : Slot _). slot_shape v) at) (λ k. set (at k).cells.items c.args.cell c.args.number) (c.requires.within r) shape s h

pub returns-clause-counts : goal.returns-clause-counts
returns-clause-counts g c =
    let r = c.index_mut-slot.result.now in
    let at = c.index_mut-slot.ensures.value in
    kept_counts c.args.self.now.slots.items c.args.i _ r c.requires.there (length-set r.cells.items c.args.cell _ ∙ ap (λ (v : Slot _). length v.cells.items) at)

pub returns-clause-sized : goal.returns-clause-sized
returns-clause-sized g c =
    let r = c.index_mut-slot.result.now in
    let at = c.index_mut-slot.ensures.value in
    kept_sizes c.args.self.now.slots.items c.args.i _ r c.requires.there (length-set r.cells.items c.args.cell _ ∙ ap (λ (v : Slot _). length v.cells.items) at)
