-- What was made is equal to the first part of the list.
use Rattle.std.proofs.Common.{◌≡◌, map, take}
use Rattle.adj_tree.specs.View.{procedure_of}
use Rattle.adj_tree.proofs.unit.Program.copy.Given as goal

abbrev pub invariant-loop-unit : goal.invariant-loop-unit
invariant-loop-unit l = map procedure_of l.made.items ≡ map procedure_of (take l.unit-index l.unit-items)
