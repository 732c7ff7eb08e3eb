-- The units passed are lowered.
use Rattle.std.proofs.Common.{◌≡◌, map, take}
use Rattle.adj_tree.specs.View.{procedure_of}
use Rattle.def_kernel.specs.Kernel.{lowered_unit}
use Rattle.adj_norm.proofs.program.lowered.Given as goal

abbrev pub invariant-loop-unit : goal.invariant-loop-unit
invariant-loop-unit l = map procedure_of l.made.items ≡ map (lowered_unit (map procedure_of l.units)) (map procedure_of (take l.unit-index l.units))
