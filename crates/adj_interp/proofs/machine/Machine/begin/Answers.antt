use Rattle.std.proofs.Common.{rules, ◌≡◌, ℕ, refl}
use Rattle.std.specs.Prelude.{Ok, Err}
use Rattle.def_meaning.specs.Event.{Begin}
use Rattle.adj_tree.specs.Code.{begin_reversal}
use Rattle.def_meaning.specs.Scene.{Done, stand, with_value}
use Rattle.def_meaning.specs.Runtime.{begun, runtime_act}
use Rattle.adj_interp.specs.Tallied.{Tallied, with_event}
use Rattle.adj_interp.specs.declared.machine.Machine.{Machine}
use Rattle.adj_interp_frame.specs.Prepared.{term_in}
use Rattle.adj_interp.specs.Held.{setting_at, Runs, plan_in}
use Rattle.adj_interp.proofs.Driving.{ends_same, ends_ok, ends_err}
use Rattle.adj_interp.proofs.Plans.{plan_chain}
use Rattle.adj_interp.proofs.Serving.{begun_ok}
use Rattle.adj_interp.proofs.machine.Machine.begin.Goals as goal

pub returns-in_err-plan-clause-ends : goal.returns-in_err-plan-clause-ends
returns-in_err-plan-clause-ends g c e s h =
    let m = c.args.self.now in
    let names = m.frame.names.now in
    let n = setting_at e in
    let steps = term_in names c.args.steps.now in
    let snapshots = term_in names c.args.snapshots.now in
    let plan = plan_in n steps snapshots s.store in
    let r : c.from_residual.result ≡ Err c.in_err-plan.field-0.0 = search rules in
    let go : ℕ → ℕ → Runs g.row.N.Denot = λ a b k. Done (begun n a b s) k in
    rw r
    (ends_same e (λ k. with_value plan c.args.line (stand n s) (λ p. go p.0 p.1 k)) (runtime_act n (begin_reversal steps snapshots) c.args.line s) m.left (Err c.in_err-plan.field-0.0) m (λ k. plan_chain n steps snapshots s.store c.args.line (stand n s) (λ a b. go a b k))
    (ends_err e plan c.args.line c.in_err-plan.field-0.0 m s (λ (p : ℕ × ℕ). go p.0 p.1) (c.in_err-plan.ensures.plan e s h) h))

pub returns-in-Ok-clause-ends : goal.returns-in-Ok-clause-ends
returns-in-Ok-clause-ends g c e s h =
    let m = c.args.self.now in
    let names = m.frame.names.now in
    let n = setting_at e in
    let steps = term_in names c.args.steps.now in
    let snapshots = term_in names c.args.snapshots.now in
    let found = plan_in n steps snapshots s.store in
    let plan = c.in_ok-plan.plan in
    let go : ℕ → ℕ → Runs g.row.N.Denot = λ a b k. Done (begun n a b s) k in
    let t : Tallied = c.begin.new.self in
    let m1 : Machine g.row.N.Denot = record m { tally = t } in
    let told : t ≡ with_event m.tally (Begin plan.0 plan.1 m.level c.len-height.result) = c.in-Ok.ensures plan.1 in
    ends_same e (λ k. with_value found c.args.line (stand n s) (λ p. go p.0 p.1 k)) (runtime_act n (begin_reversal steps snapshots) c.args.line s) m.left (Ok tt) m1 (λ k. plan_chain n steps snapshots s.store c.args.line (stand n s) (λ a b. go a b k))
    (ends_ok e found c.args.line plan (stand n s) (λ (p : ℕ × ℕ). go p.0 p.1) m.left (Ok tt) m1 (c.in_ok-plan.ensures.plan e s h)
    (begun_ok e m m1 t s plan.0 plan.1 m.level c.len-height.result h refl told refl c.len-height.ensures))
