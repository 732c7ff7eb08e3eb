-- The faults of the statements passed, and of those that are left.
use Rattle.std.proofs.Common.{◌≡◌, map, drop}
use Rattle.std.specs.List.{flat_map}
use Rattle.adj_tree.specs.View.{procedure_of}
use Rattle.def_meaning.specs.LeastSet.{row_of}
use Rattle.def_names.specs.Calls.{call_in}
use Rattle.def_names.specs.Fault.{fault, faults_if, first_of, sooner}
use Rattle.def_names.specs.WriteFaults.{hands_back_values}
use Rattle.adj_symbols_writes.specs.View.{seen}
use Rattle.adj_symbols.proofs.sharing.add_written_values.Given as goal

abbrev pub invariant-loop-stmt : goal.invariant-loop-stmt
invariant-loop-stmt l = sooner l.first (first_of (flat_map (λ s. flat_map (λ c. faults_if (hands_back_values (row_of (map procedure_of l.scope) l.written c.0) c.1) (fault 24 s.0)) (call_in s.1)) (seen (drop l.stmt-index l.stmt-items)))) ≡ sooner l.initial.first (first_of (flat_map (λ s. flat_map (λ c. faults_if (hands_back_values (row_of (map procedure_of l.scope) l.written c.0) c.1) (fault 24 s.0)) (call_in s.1)) (seen l.stmt-items)))
