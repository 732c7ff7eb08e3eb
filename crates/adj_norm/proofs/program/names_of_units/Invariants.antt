-- The names of the units passed.
use Rattle.std.proofs.Common.{◌≡◌, map, take}
use Rattle.adj_tree.specs.View.{procedure_of}
use Rattle.def_kernel.specs.Kernel.{unit_name}
use Rattle.adj_norm.proofs.program.names_of_units.Given as goal

abbrev pub invariant-loop-unit : goal.invariant-loop-unit
invariant-loop-unit l = l.names.items ≡ map unit_name (map procedure_of (take l.unit-index l.units))
