-- The names of the units passed.
use Rattle.std.proofs.Common.{◌≡◌, ◌++◌, map, drop}
use Rattle.adj_tree.specs.View.{procedure_of}
use Rattle.def_names.specs.UnitFaults.{unit_places}
use Rattle.adj_symbols.specs.View.{places_of}
use Rattle.adj_symbols.proofs.places.unit_places.Given as goal

abbrev pub invariant-loop-unit : goal.invariant-loop-unit
invariant-loop-unit l = places_of l.places.items ++ unit_places (map procedure_of (drop l.unit-index l.units)) ≡ unit_places (map procedure_of l.units)
