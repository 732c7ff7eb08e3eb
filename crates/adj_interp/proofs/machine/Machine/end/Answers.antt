use Rattle.std.proofs.Common.{rules, ◌≡◌, length, refl}
use Rattle.def_meaning.specs.Event.{End}
use Rattle.adj_interp.specs.Tallied.{Tallied, with_event}
use Rattle.adj_interp.specs.declared.machine.Machine.{Machine}
use Rattle.adj_interp.proofs.Serving.{ended_none, ended_ok}
use Rattle.adj_interp.proofs.machine.Machine.end.Goals as goal

pub returns-then-open-self-clause-ends : goal.returns-then-open-self-clause-ends
returns-then-open-self-clause-ends g c e s h =
    let m = c.args.self.now in
    let same : length m.tally.begun ≡ m.base = search rules in
    ended_none e m s c.args.line h same

pub returns-in-Ok-clause-ends : goal.returns-in-Ok-clause-ends
returns-in-Ok-clause-ends g c e s h =
    let m = c.args.self.now in
    let t : Tallied = c.end.new.self in
    let m1 : Machine g.row.N.Denot = record m { tally = t } in
    let told : t ≡ with_event m.tally (End e.level) = c.in-Ok.ensures e.level in
    let some : length m.tally.begun ≡ m.base → ⊥ = search rules in
    ended_ok e m m1 t s c.args.line h some refl told
