-- The slots so far, and what is still to come.
use Rattle.std.proofs.Common.{◌≡◌, ◌++◌, map, drop}
use Rattle.def_jacobian.specs.Inputs.{by_columns}
use Rattle.adj_interp.specs.Concludes.{slot_seen}
use Rattle.adj_interp.specs.Inputs.{entry_seen}
use Rattle.adj_jacobian.proofs.start.start_slots.Given as goal

abbrev pub invariant-loop-i : goal.invariant-loop-i
invariant-loop-i g l =
    let of_word = g.N.Number.numbers.of_word in
    let own = g.S.Start.own l.start in
    map entry_seen l.slots.items ++ by_columns of_word own (drop l.i l.vars) (map slot_seen (drop l.i l.input)) l.first ≡ by_columns of_word own l.vars (map slot_seen l.input) 0
