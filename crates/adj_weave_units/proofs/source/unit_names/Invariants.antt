-- The names of the units passed are made.
use Rattle.std.proofs.Common.{◌≡◌, ◌++◌, map, drop}
use Rattle.adj_tree.specs.View.{procedure_of}
use Rattle.def_sweep.specs.Declared.{unit_name}
use Rattle.adj_weave_units.proofs.source.unit_names.Given as goal

abbrev pub invariant-loop-unit : goal.invariant-loop-unit
invariant-loop-unit l = l.made.items ++ map unit_name (map procedure_of (drop l.unit-index l.units)) ≡ map unit_name (map procedure_of l.units)
