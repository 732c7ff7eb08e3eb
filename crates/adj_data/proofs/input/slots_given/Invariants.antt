use Rattle.std.proofs.Common.{◌≡◌, map, take, drop}
use Rattle.adj_tree.specs.View.{procedure_of}
use Rattle.adj_data.specs.Faults.{dummies_fault}
use Rattle.adj_data.specs.Given.{slot_given, slot_seen}
use Rattle.adj_data.proofs.input.slots_given.Given as goal

abbrev pub invariant-loop-name : goal.invariant-loop-name
invariant-loop-name l =
    (dummies_fault l.entries (procedure_of l.unit) (drop l.name-index l.name-items) ≡ dummies_fault l.entries (procedure_of l.unit) l.unit.dummies)
    × (map slot_seen l.slots.items ≡ map (slot_given l.entries (procedure_of l.unit)) (take l.name-index l.name-items))
