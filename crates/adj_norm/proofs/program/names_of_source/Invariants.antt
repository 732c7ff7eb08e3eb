-- The names in the units left are still to be added.
use Rattle.std.proofs.Common.{◌≡◌, [], map, drop, flat_map}
use Rattle.adj_tree.specs.View.{procedure_of}
use Rattle.def_kernel.specs.Kernel.{names_of}
use Rattle.def_kernel.specs.Stepped.{names_of_source}
use Rattle.adj_sets.specs.Sets.{all_added}
use Rattle.adj_norm.proofs.program.names_of_source.Given as goal

abbrev pub invariant-loop-unit : goal.invariant-loop-unit
invariant-loop-unit l = all_added l.names (flat_map names_of (map procedure_of (drop l.unit-index l.units))) ≡ all_added [] (names_of_source (map procedure_of l.units))
