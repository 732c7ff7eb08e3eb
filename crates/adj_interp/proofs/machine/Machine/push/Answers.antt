use Rattle.std.proofs.Common.{rules, ◌≡◌, ◌<◌, ◌∷◌, length, ap}
use Rattle.adj_tape.specs.Held.{Held}
use Rattle.adj_interp.specs.declared.machine.Machine.{Machine}
use Rattle.adj_interp.proofs.Serving.{pushed_ok, pushed_full}
use Rattle.adj_interp.proofs.machine.Machine.push.Goals as goal

pub returns-in-Ok-clause-ends : goal.returns-in-Ok-clause-ends
returns-in-Ok-clause-ends g c e s h =
    let m = c.args.self.now in
    let room : length m.tape.words < m.tape.room = search rules in
    let same : c.push.new.self ≡ record m.tape { words = c.args.number ∷ m.tape.words } = search rules in
    let put : Held g.row.N.Denot → Machine g.row.N.Denot = λ t. record m { tape = t } in
    pushed_ok e m (put c.push.new.self) s c.args.number h room (ap put same)

pub returns-in-Err-clause-ends : goal.returns-in-Err-clause-ends
returns-in-Err-clause-ends g c e s h =
    let m = c.args.self.now in
    let full : length m.tape.words ≡ m.tape.room = search rules in
    let same : c.push.new.self ≡ m.tape = search rules in
    let put : Held g.row.N.Denot → Machine g.row.N.Denot = λ t. record m { tape = t } in
    pushed_full e m (put c.push.new.self) s c.args.number h full (ap put same)
