use Rattle.std.proofs.Common.{rules, ◌≡◌}
use Rattle.std.specs.Prelude.{Err}
use Rattle.def_meaning.specs.Scene.{stand, pushed}
use Rattle.adj_interp.specs.Held.{setting_at}
use Rattle.adj_interp.proofs.Driving.{ends_ok, ends_err}
use Rattle.adj_interp.proofs.machine.Machine.push_control.Goals as goal

pub returns-in_err-number-clause-ends : goal.returns-in_err-number-clause-ends
returns-in_err-number-clause-ends g c e s h =
    let r : c.from_residual.result ≡ Err c.in_err-number.field-0.0 = search rules in
    rw r (ends_err e _ c.args.line c.in_err-number.field-0.0 c.args.self.now s _ (c.in_err-number.ensures.value e s h) h)

pub returns-clause-ends : goal.returns-clause-ends
returns-clause-ends g c e s h =
    ends_ok e _ c.args.line c.in_ok-number.number (stand (setting_at e) s) (λ w. pushed (setting_at e) w s) c.args.self.now.left c.push.result c.push.new.self (c.in_ok-number.ensures.value e s h) (c.push.ensures.ends e s h)
