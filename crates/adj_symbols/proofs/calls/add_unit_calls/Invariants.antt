-- The faults of the statements passed, and of those that are left.
use Rattle.std.proofs.Common.{◌≡◌, map, drop}
use Rattle.std.specs.Prelude.{flat_map}
use Rattle.adj_tree.specs.View.{procedure_of}
use Rattle.def_names.specs.CallFaults.{faults_of_call}
use Rattle.def_names.specs.Fault.{first_of, sooner}
use Rattle.adj_symbols_writes.specs.View.{seen}
use Rattle.adj_symbols.proofs.calls.add_unit_calls.Given as goal

abbrev pub invariant-loop-stmt : goal.invariant-loop-stmt
invariant-loop-stmt l = sooner l.first (first_of (flat_map (λ s. faults_of_call (map procedure_of l.scope) (procedure_of l.caller) s.0 s.1) (seen (drop l.stmt-index l.stmt-items)))) ≡ sooner l.initial.first (first_of (flat_map (λ s. faults_of_call (map procedure_of l.scope) (procedure_of l.caller) s.0 s.1) (seen l.stmt-items)))
