use Rattle.std.proofs.Common.{rules, ◌≡◌}
use Rattle.std.specs.Prelude.{Err}
use Rattle.def_meaning.specs.Scene.{stand, popped}
use Rattle.adj_interp_frame.specs.Prepared.{var_at}
use Rattle.adj_interp.specs.Held.{setting_at}
use Rattle.adj_interp.proofs.Driving.{ends_ok, ends_err}
use Rattle.adj_interp.proofs.machine.Machine.pop_word.Goals as goal

pub returns-in_err-place-clause-ends : goal.returns-in_err-place-clause-ends
returns-in_err-place-clause-ends g c e s h =
    let r : c.from_residual.result ≡ Err c.in_err-place.field-0.0 = search rules in
    rw r (ends_err e _ c.args.line c.in_err-place.field-0.0 c.args.self.now s _ (c.in_err-place.ensures.target e s h) h)

pub returns-clause-ends : goal.returns-clause-ends
returns-clause-ends g c e s h =
    let m = c.args.self.now in
    let x = var_at m.frame.names.now c.args.cell.now.variable in
    ends_ok e _ c.args.line c.in_ok-place.place (stand (setting_at e) s) (λ i. popped (setting_at e) x i c.args.line s) m.left c.pop.result c.pop.new.self (c.in_ok-place.ensures.target e s h) (c.pop.ensures.ends e s h)
