use Rattle.std.proofs.Common.{rules, ◌≡◌, ◌<◌, ℕ, length, get_or, sym, ap, subst, ◌∙◌, arith}
use Rattle.std.specs.Prelude.{Err}
use Rattle.std.proofs.lemmas.List.{get_or_default}
use Rattle.def_meaning.specs.Scene.{stand, pushed}
use Rattle.adj_interp_frame.specs.Framed.{zero_in}
use Rattle.adj_interp_frame.specs.declared.slot.Slot.{Slot}
use Rattle.adj_interp_frame.specs.Prepared.{var_at}
use Rattle.adj_interp.specs.Held.{setting_at, Runs, Ends}
use Rattle.adj_interp.proofs.Driving.{ends_ok, ends_err}
use Rattle.adj_interp.proofs.Serving.{held_cell}
use Rattle.adj_interp.proofs.machine.Machine.push_word.Goals as goal

pub returns-in_err-place-clause-ends : goal.returns-in_err-place-clause-ends
returns-in_err-place-clause-ends g c e s h =
    let r : c.from_residual.result ≡ Err c.in_err-place.field-0.0 = search rules in
    rw r (ends_err e _ c.args.line c.in_err-place.field-0.0 c.args.self.now s _ (c.in_err-place.ensures.target e s h) h)

pub returns-clause-ends : goal.returns-clause-ends
returns-clause-ends g c e s h =
    let m = c.args.self.now in
    let at = c.args.cell.now in
    let x = var_at m.frame.names.now at.variable in
    let d = c.index.result.now in
    let place = c.in_ok-place.place in
    let framed = c.requires.framed in
    let each = framed.each in
    let below = c.requires.below.0 in
    let there : at.variable < length m.frame.slots.items = omega (arith, each, below) in
    let within : place < length (get_or m.frame.slots.items at.variable d).cells.items = c.in_ok-place.ensures.within d in
    let in_slot : place < length d.cells.items = subst (λ (v : Slot _). place < length v.cells.items) (sym c.index.ensures) within in
    let read : s.store x place ≡ c.index-number.result.now =
    held_cell e m s at.variable d h framed there place within
    ∙ ap (λ (v : Slot _). get_or v.cells.items place (zero_in g.N.Number.numbers)) (sym c.index.ensures)
    ∙ get_or_default d.cells.items place (zero_in g.N.Number.numbers) c.index-number.result.now in_slot
    ∙ sym c.index-number.ensures in
    let go : ℕ → Runs g.row.N.Denot = λ i. pushed (setting_at e) (s.store x i) s in
    ends_ok e _ c.args.line place (stand (setting_at e) s) go m.left c.push.result c.push.new.self (c.in_ok-place.ensures.target e s h)
    (subst (λ z. Ends e (pushed (setting_at e) z s) m.left c.push.result c.push.new.self) (sym read) (c.push.ensures.ends e s h))
