-- The faults of the units passed, and of those that are left.
use Rattle.std.proofs.Common.{◌≡◌, map, drop}
use Rattle.std.specs.List.{flat_map}
use Rattle.adj_tree.specs.View.{procedure_of}
use Rattle.def_meaning.specs.LeastSet.{row_of}
use Rattle.def_names.specs.Fault.{first_of, sooner}
use Rattle.def_names.specs.WriteFaults.{faults_of_writes}
use Rattle.adj_symbols.proofs.write_faults.add_writes.Given as goal

abbrev pub invariant-loop-outline : goal.invariant-loop-outline
invariant-loop-outline l = sooner l.first (first_of (flat_map (faults_of_writes (row_of (map procedure_of l.scope) l.written)) (map procedure_of (drop l.outline-index l.outline-items)))) ≡ sooner l.initial.first (first_of (flat_map (faults_of_writes (row_of (map procedure_of l.scope) l.written)) (map procedure_of l.outline-items)))
