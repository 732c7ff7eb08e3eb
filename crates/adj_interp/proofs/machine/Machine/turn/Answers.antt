use Rattle.std.proofs.Common.{w64, get_or, ap, subst, ◌∙◌, arith}
use Rattle.std.proofs.lemmas.Int.{to_z-of_z}
use Rattle.def_meaning.specs.Scene.{Scene}
use Rattle.def_meaning.specs.Store.{set}
use Rattle.adj_interp_frame.specs.Prepared.{var_at}
use Rattle.adj_interp_frame.proofs.Reading.{has_first}
use Rattle.adj_interp.specs.Held.{Holds}
use Rattle.adj_interp.proofs.machine.Machine.turn.Goals as goal

pub put-requires-clause-within : goal.put-requires-clause-within
put-requires-clause-within g c d =
    let f = c.requires.framed in
    let each = f.each in
    let there = c.requires.there in
    has_first (get_or c.args.self.now.frame.slots.items c.args.variable d) (f.sized c.args.variable d (omega (arith, each, there)))

pub returns-clause-holds : goal.returns-clause-holds
returns-clause-holds g c e s h =
    let put : g.row.N.Denot → Scene g.row.N.Denot = λ z. record s { store = set s.store (var_at c.args.self.now.frame.names.now c.args.variable) 0 z } in
    let number = c.of_word.ensures ∙ ap g.N.Number.numbers.of_word (to_z-of_z w64 c.args.word c.ranges.word) in
    subst (λ z. Holds e c.put.new.self (put z)) number (c.put.ensures.holds e s h)
