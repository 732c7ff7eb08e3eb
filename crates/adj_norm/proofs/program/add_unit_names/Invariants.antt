-- The names of the units left are still to be added.
use Rattle.std.proofs.Common.{◌≡◌, map, drop}
use Rattle.adj_tree.specs.View.{procedure_of}
use Rattle.def_kernel.specs.Kernel.{unit_name}
use Rattle.adj_sets.specs.Sets.{all_added}
use Rattle.adj_norm.proofs.program.add_unit_names.Given as goal

abbrev pub invariant-loop-unit : goal.invariant-loop-unit
invariant-loop-unit l = all_added l.names (map unit_name (map procedure_of (drop l.unit-index l.units))) ≡ all_added l.fn.names (map unit_name (map procedure_of l.units))
