use Rattle.std.proofs.Common.{rules, ◌≡◌, [], ◌∷◌, refl, ap}
use Rattle.adj_tape.specs.Held.{Held}
use Rattle.adj_interp.specs.declared.machine.Machine.{Machine}
use Rattle.adj_interp_frame.specs.Prepared.{var_at}
use Rattle.adj_interp.proofs.Serving.{popped_ok, popped_none}
use Rattle.adj_interp.proofs.machine.Machine.pop.Goals as goal

pub returns-in-Some-clause-ends : goal.returns-in-Some-clause-ends
returns-in-Some-clause-ends g c e s h =
    let m = c.args.self.now in
    let t = c.pop.new.self in
    let m1 : Machine g.row.N.Denot = record m { tape = t } in
    let top : m.tape ≡ record t { words = c.in-Some.number ∷ t.words } = search rules in
    popped_ok e m m1 c.put.new.self t s (var_at m.frame.names.now c.args.variable) c.args.cell c.args.line c.in-Some.number h top refl c.put.ensures.left (λ z g. c.put.ensures.holds e z g)

pub returns-in-None-clause-ends : goal.returns-in-None-clause-ends
returns-in-None-clause-ends g c e s h =
    let m = c.args.self.now in
    let none : m.tape.words ≡ [] = search rules in
    let same : c.pop.new.self ≡ m.tape = search rules in
    let put : Held g.row.N.Denot → Machine g.row.N.Denot = λ t. record m { tape = t } in
    popped_none e m (put c.pop.new.self) s (var_at m.frame.names.now c.args.variable) c.args.cell c.args.line h none (ap put same)
