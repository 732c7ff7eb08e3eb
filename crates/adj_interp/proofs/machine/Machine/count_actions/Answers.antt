use Rattle.std.proofs.Common.{rules, ◌≡◌, ℕ, List, pos, length}
use Rattle.std.specs.Prelude.{Ok, Err}
use Rattle.adj_revolve.specs.declared.machine.Action.{Action}
use Rattle.adj_revolve.specs.Schedule.{schedule_of}
use Rattle.def_meaning.specs.Store.{set}
use Rattle.adj_tree.specs.Code.{count_actions}
use Rattle.def_meaning.specs.Scene.{Done, stand, with_value}
use Rattle.def_meaning.specs.Runtime.{runtime_act}
use Rattle.adj_interp_frame.specs.Prepared.{var_at, term_in}
use Rattle.adj_interp.specs.Held.{setting_at, Holds, Runs, plan_in}
use Rattle.adj_interp.proofs.Driving.{ends_same, ends_ok, ends_err, done_at_once}
use Rattle.adj_interp.proofs.Plans.{count_chain}
use Rattle.adj_interp.proofs.machine.Machine.count_actions.Goals as goal

pub returns-in_err-plan-clause-ends : goal.returns-in_err-plan-clause-ends
returns-in_err-plan-clause-ends g c e s h =
    let m = c.args.self.now in
    let names = m.frame.names.now in
    let n = setting_at e in
    let x = var_at names c.args.variable in
    let r : c.from_residual.result ≡ Err c.in_err-plan.field-0.0 = search rules in
    let go : List Action → Runs g.row.N.Denot = λ list k. Done (record s { store = set s.store x 0 (g.N.Number.numbers.of_word (pos (length list))) }) k in
    let steps = term_in names c.args.steps.now in
    let snapshots = term_in names c.args.snapshots.now in
    let plan = plan_in n steps snapshots s.store in
    rw r
    (ends_same e (λ k. with_value plan c.args.line (stand n s) (λ p. go (schedule_of 0 p.0 p.1) k)) (runtime_act n (count_actions steps snapshots x) c.args.line s) m.left (Err c.in_err-plan.field-0.0) m (λ k. count_chain n steps snapshots s.store c.args.line (stand n s) (λ list. go list k))
    (ends_err e plan c.args.line c.in_err-plan.field-0.0 m s (λ (p : ℕ × ℕ). go (schedule_of 0 p.0 p.1)) (c.in_err-plan.ensures.plan e s h) h))

pub returns-clause-ends : goal.returns-clause-ends
returns-clause-ends g c e s h =
    let m = c.args.self.now in
    let names = m.frame.names.now in
    let n = setting_at e in
    let x = var_at names c.args.variable in
    let steps = term_in names c.args.steps.now in
    let snapshots = term_in names c.args.snapshots.now in
    let plan = plan_in n steps snapshots s.store in
    let p = c.in_ok-plan.plan in
    let go : List Action → Runs g.row.N.Denot = λ list k. Done (record s { store = set s.store x 0 (g.N.Number.numbers.of_word (pos (length list))) }) k in
    let turned : Holds e c.turn.new.self (record s { store = set s.store x 0 (g.N.Number.numbers.of_word (pos (length (schedule_of 0 p.0 p.1)))) }) = search rules in
    ends_same e (λ k. with_value plan c.args.line (stand n s) (λ p. go (schedule_of 0 p.0 p.1) k)) (runtime_act n (count_actions steps snapshots x) c.args.line s) m.left (Ok tt) c.turn.new.self (λ k. count_chain n steps snapshots s.store c.args.line (stand n s) (λ list. go list k))
    (ends_ok e plan c.args.line p (stand n s) (λ (p : ℕ × ℕ). go (schedule_of 0 p.0 p.1)) m.left (Ok tt) c.turn.new.self (c.in_ok-plan.ensures.plan e s h) (done_at_once e m c.turn.new.self _ turned c.turn.ensures.left))
