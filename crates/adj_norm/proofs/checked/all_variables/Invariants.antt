-- The variables of the units passed.
use Rattle.std.proofs.Common.{◌≡◌, map, take}
use Rattle.adj_tree.specs.View.{procedure_of}
use Rattle.def_names.specs.Variables.{variables}
use Rattle.adj_norm.proofs.checked.all_variables.Given as goal

abbrev pub invariant-loop-unit : goal.invariant-loop-unit
invariant-loop-unit l = l.made.items ≡ map variables (map procedure_of (take l.unit-index l.units))
