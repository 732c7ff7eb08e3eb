use Rattle.std.proofs.Common.{rules, ◌≡◌, ap, subst, ◌∙◌}
use Rattle.std.specs.Prelude.{Ok, Err}
use Rattle.adj_revolve.specs.declared.machine.Action.{Action}
use Rattle.adj_tree.specs.Code.{give_action}
use Rattle.def_meaning.specs.Scene.{Done, stand, with_value}
use Rattle.def_meaning.specs.Runtime.{runtime_act}
use Rattle.adj_interp.specs.declared.machine.Machine.{Machine}
use Rattle.adj_interp_frame.specs.Prepared.{var_at, term_in}
use Rattle.adj_interp.specs.Held.{setting_at, Holds, Runs, Ends, action_in, given_in}
use Rattle.adj_interp.proofs.Driving.{ends_same, ends_ok, ends_err, done_at_once}
use Rattle.adj_interp.proofs.Plans.{action_chain}
use Rattle.adj_interp.proofs.Serving.{holds_cursor}
use Rattle.adj_interp.proofs.machine.Machine.give_action.Goals as goal

pub returns-in_err-action-clause-ends : goal.returns-in_err-action-clause-ends
returns-in_err-action-clause-ends g c e s h =
    let m = c.args.self.now in
    let m1 = c.asked.new.self in
    let names = m.frame.names.now in
    let n = setting_at e in
    let x = c.in_err-action.field-0.0 in
    let r : c.from_residual.result ≡ Err c.in_err-action.field-0.0 = search rules in
    let x1 = var_at names c.args.targets.0 in
    let x2 = var_at names c.args.targets.1 in
    let x3 = var_at names c.args.targets.2 in
    let steps = term_in names c.args.steps.now in
    let snapshots = term_in names c.args.snapshots.now in
    let number = term_in names c.args.number.now in
    let found = action_in n steps snapshots number s.store in
    let go : Action → Runs g.row.N.Denot = λ b k. Done (given_in n x1 x2 x3 b s) k in
    let whole = runtime_act n (give_action steps snapshots number x1 x2 x3) c.args.line s in
    let rest = c.in_err-action.ensures.rest in
    let left : m1.left ≡ m.left = ap (λ (z : Machine _). z.left) rest in
    rw r
    (subst (λ k. Ends e whole k (Err x) m1) left
    (ends_same e (λ k. with_value found c.args.line (stand n s) (λ b. go b k)) whole m1.left (Err x) m1 (λ k. action_chain n steps snapshots number s.store c.args.line (stand n s) (λ b. go b k))
    (ends_err e found c.args.line x m1 s go (c.in_err-action.ensures.action e s h) (holds_cursor e m m1 m1.cursor s rest h))))

pub returns-clause-ends : goal.returns-clause-ends
returns-clause-ends g c e s h =
    let m = c.args.self.now in
    let m1 = c.asked.new.self in
    let m2 = c.give.new.self in
    let names = m.frame.names.now in
    let n = setting_at e in
    let a = c.in_ok-action.action in
    let rest = c.in_ok-action.ensures.rest in
    let held = holds_cursor e m m1 m1.cursor s rest h in
    let same : m1.frame.names.now ≡ names = ap (λ (z : Machine _). z.frame.names.now) rest in
    let left : m2.left ≡ m.left = c.give.ensures.left ∙ ap (λ (z : Machine _). z.left) rest in
    let x1 = var_at names c.args.targets.0 in
    let x2 = var_at names c.args.targets.1 in
    let x3 = var_at names c.args.targets.2 in
    let steps = term_in names c.args.steps.now in
    let snapshots = term_in names c.args.snapshots.now in
    let number = term_in names c.args.number.now in
    let found = action_in n steps snapshots number s.store in
    let go : Action → Runs g.row.N.Denot = λ b k. Done (given_in n x1 x2 x3 b s) k in
    let whole = runtime_act n (give_action steps snapshots number x1 x2 x3) c.args.line s in
    let given = subst (λ ns. Holds e m2 (given_in n (var_at ns c.args.targets.0) (var_at ns c.args.targets.1) (var_at ns c.args.targets.2) a s)) same (c.give.ensures.holds e s held) in
    ends_same e (λ k. with_value found c.args.line (stand n s) (λ b. go b k)) whole m.left (Ok tt) m2 (λ k. action_chain n steps snapshots number s.store c.args.line (stand n s) (λ b. go b k))
    (ends_ok e found c.args.line a (stand n s) go m.left (Ok tt) m2 (c.in_ok-action.ensures.action e s h) (done_at_once e m m2 (given_in n x1 x2 x3 a s) given left))
