use Rattle.std.proofs.Common.{sym, subst, ◌∙◌}
use Rattle.std.specs.Prelude.{Some}
use Rattle.def_meaning.specs.Value.{value}
use Rattle.adj_interp_frame.specs.Prepared.{term_in}
use Rattle.adj_interp_frame.proofs.Showing.{value_shown}
use Rattle.adj_interp.specs.Held.{setting_at, Finds}
use Rattle.adj_interp.proofs.Driving.{finds_at}
use Rattle.adj_interp.proofs.machine.Machine.assigned.Goals as goal

pub returns : goal.returns
returns g c =
    let f = c.args.self.now.frame in
    let term = term_in f.names.now c.args.term.now in
    record {
      value = λ e s h. subst (Finds c.args.line (value (setting_at e) term s.store)) (sym c.at_line.ensures)
          (finds_at c.args.line c.evaluate.result _ (value_shown g.N.Number.numbers f.names.now f.slots.items e.shape (Some e.room) e.level s.store h.shown term ∙ sym c.evaluate.ensures.value));
    }
