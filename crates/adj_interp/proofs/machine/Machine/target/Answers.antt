use Rattle.std.proofs.Common.{ℕ, ◌<◌, length, get_or, sym, subst, ◌∙◌}
use Rattle.std.specs.Prelude.{Some, IfOk}
use Rattle.def_meaning.specs.Value.{target}
use Rattle.adj_interp_frame.specs.declared.slot.Slot.{Slot}
use Rattle.adj_interp_frame.specs.Prepared.{var_at, terms_in}
use Rattle.adj_interp_frame.proofs.Showing.{target_shown}
use Rattle.adj_interp.specs.Held.{setting_at, Finds}
use Rattle.adj_interp.proofs.Driving.{finds_at, found_at}
use Rattle.adj_interp.proofs.machine.Machine.target.Goals as goal

pub returns-clause-target : goal.returns-clause-target
returns-clause-target g c e s h =
    let f = c.args.self.now.frame in
    let x = var_at f.names.now c.args.cell.now.variable in
    let subs = terms_in f.names.now c.args.cell.now.subs in
    subst (Finds c.args.line (target (setting_at e) x subs s.store)) (sym c.at_line.ensures)
    (finds_at c.args.line c.target.result _ (target_shown g.N.Number.numbers f.names.now f.slots.items e.shape (Some e.room) e.level s.store h.shown x subs ∙ sym c.target.ensures.cell))

pub returns-clause-within : goal.returns-clause-within
returns-clause-within g c =
    let within : ℕ → Type 0 = λ j. (d : Slot _) → j < length (get_or c.args.self.now.frame.slots.items c.args.cell.now.variable d).cells.items in
    subst (λ r. IfOk r within) (sym c.at_line.ensures) (found_at within c.args.line c.target.result c.target.ensures.within)
