use Rattle.std.proofs.Common.{◌≡◌, ◌-◌, suc, drop, ap, ◌∙◌, arith}
use Rattle.std.specs.Prelude.{slice_get}
use Rattle.adj_revolve.specs.Schedule.{schedule_of}
use Rattle.adj_interp.specs.Tallied.{Plan, planned}
use Rattle.adj_interp.proofs.Plans.{taken}
use Rattle.adj_interp.proofs.cursor.Cursor.action.Goals as goal

pub invariant_of-self : goal.invariant_of-self
invariant_of-self c =
    let inv = c.self.invariant in
    let p = c.self.inside in
    let list = schedule_of 0 p.steps p.snapshots in
    let got = taken (c.args.number - 1) list c.skip.new.schedule c.next.new.self c.next.result (c.skip.ensures ∙ c.resume-before.ensures) c.next.ensures in
    let some = c.requires in
    let one : suc (c.args.number - 1) ≡ c.args.number = omega (arith, some) in
    (inv.0, inv.1, inv.2, got.0 ∙ ap (λ z. drop z list) one)

pub returns-clause-action : goal.returns-clause-action
returns-clause-action c =
    let p = c.self.inside in
    let list = schedule_of 0 p.steps p.snapshots in
    let got = taken (c.args.number - 1) list c.skip.new.schedule c.next.new.self c.next.result (c.skip.ensures ∙ c.resume-before.ensures) c.next.ensures in
    got.1 ∙ ap (λ (z : Plan). slice_get (planned z) (c.args.number - 1)) c.self.view_is

pub returns-then-not-is_near-clause-action : goal.returns-then-not-is_near-clause-action
returns-then-not-is_near-clause-action c = c.action.ensures ∙ ap (λ (z : Plan). slice_get (planned z) (c.args.number - 1)) c.self.view_is
