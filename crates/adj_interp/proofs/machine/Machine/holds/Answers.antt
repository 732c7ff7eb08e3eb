use Rattle.std.proofs.Common.{sym, subst, ◌∙◌}
use Rattle.std.specs.Prelude.{Some}
use Rattle.def_meaning.specs.Value.{holds}
use Rattle.adj_interp_frame.specs.Prepared.{test_in}
use Rattle.adj_interp_frame.proofs.Showing.{holds_shown}
use Rattle.adj_interp.specs.Held.{setting_at, Finds}
use Rattle.adj_interp.proofs.Driving.{finds_at}
use Rattle.adj_interp.proofs.machine.Machine.holds.Goals as goal

pub returns : goal.returns
returns g c =
    let f = c.args.self.now.frame in
    let t = test_in f.names.now c.args.test.now in
    record {
      holds = λ e s h. subst (Finds c.args.line (holds (setting_at e) t s.store)) (sym c.at_line.ensures)
          (finds_at c.args.line c.holds.result _ (holds_shown g.N.Number.numbers f.names.now f.slots.items e.shape (Some e.room) e.level s.store h.shown t ∙ sym c.holds.ensures.holds));
    }
