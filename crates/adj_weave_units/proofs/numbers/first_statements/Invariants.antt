-- The numbers of the units passed are made.
use Rattle.std.proofs.Common.{◌≡◌, ◌++◌, map, drop}
use Rattle.adj_tree.specs.View.{procedure_of}
use Rattle.adj_weave_units.specs.Calls.{numbers_from}
use Rattle.adj_weave_units.proofs.numbers.first_statements.Given as goal

abbrev pub invariant-loop-unit : goal.invariant-loop-unit
invariant-loop-unit l = l.made.items ++ numbers_from l.number (map procedure_of (drop l.unit-index l.units)) ≡ numbers_from 0 (map procedure_of l.units)
