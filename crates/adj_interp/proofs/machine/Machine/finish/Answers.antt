use Rattle.std.proofs.Common.{rules, ◌≡◌, length, ap, subst, ◌∙◌}
use Rattle.std.specs.Prelude.{Ok, Err}
use Rattle.adj_tree.specs.View.{code_of}
use Rattle.def_meaning.specs.Run.{run}
use Rattle.def_meaning.specs.Units.{calls_of}
use Rattle.adj_interp_frame.specs.Instructed.{steps_in}
use Rattle.adj_interp_frame.specs.Linked.{units_in}
use Rattle.adj_interp.specs.Held.{setting_at, Ends}
use Rattle.adj_interp.specs.Entered.{closed}
use Rattle.adj_interp.proofs.Driving.{ends_break}
use Rattle.adj_interp.proofs.Calling.{finish_open, finish_closed}
use Rattle.adj_interp.proofs.machine.Machine.finish.Goals as goal

pub returns-in_err-run-clause-ends : goal.returns-in_err-run-clause-ends
returns-in_err-run-clause-ends g c e s h =
    let m = c.run.new.self in
    let q = calls_of {C = g.row.N.Denot} (units_in c.args.program.now) c.args.depth in
    let body = ap (λ ns. steps_in ns c.args.routine.now.body) c.requires.names ∙ c.requires.routine.body in
    let x = c.in_err-run.field-0.0 in
    let r : c.from_residual.result ≡ Err c.in_err-run.field-0.0 = search rules in
    let ends = subst (λ z. Ends e (run q (setting_at e) z s) c.args.self.now.left (Err x) m) body (c.in_err-run.ensures.ends e s h) in
    rw r (ends_break e (run q (setting_at e) (code_of c.args.routine.now.unit.now.body) s) c.args.self.now.left (closed (setting_at e) c.args.routine.now.unit.now.line) x m ends)

pub returns-then-open-self-clause-ends : goal.returns-then-open-self-clause-ends
returns-then-open-self-clause-ends g c e s h =
    let m = c.run.new.self in
    let q = calls_of {C = g.row.N.Denot} (units_in c.args.program.now) c.args.depth in
    let body = ap (λ ns. steps_in ns c.args.routine.now.body) c.requires.names ∙ c.requires.routine.body in
    let ends = subst (λ z. Ends e (run q (setting_at e) z s) c.args.self.now.left (Ok tt) m) body (c.in_ok-run.ensures.ends e s h) in
    finish_open e (run q (setting_at e) (code_of c.args.routine.now.unit.now.body) s) c.args.self.now.left c.args.routine.now.unit.now.line m ends (λ p. c.if-open-self.true (c.open.ensures ∙ p))

pub returns-clause-ends : goal.returns-clause-ends
returns-clause-ends g c e s h =
    let m = c.run.new.self in
    let q = calls_of {C = g.row.N.Denot} (units_in c.args.program.now) c.args.depth in
    let body = ap (λ ns. steps_in ns c.args.routine.now.body) c.requires.names ∙ c.requires.routine.body in
    let ends = subst (λ z. Ends e (run q (setting_at e) z s) c.args.self.now.left (Ok tt) m) body (c.in_ok-run.ensures.ends e s h) in
    let none : length m.tally.begun ≡ m.base = search rules in
    finish_closed e (run q (setting_at e) (code_of c.args.routine.now.unit.now.body) s) c.args.self.now.left c.args.routine.now.unit.now.line m ends none
