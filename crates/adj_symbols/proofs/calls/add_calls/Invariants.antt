-- The faults of the units passed, and of those that are left.
use Rattle.std.proofs.Common.{◌≡◌, map, drop}
use Rattle.std.specs.Prelude.{flat_map}
use Rattle.adj_tree.specs.View.{procedure_of}
use Rattle.def_names.specs.CallFaults.{faults_of_call}
use Rattle.def_names.specs.Statements.{statements}
use Rattle.def_names.specs.Fault.{first_of, sooner}
use Rattle.adj_symbols.proofs.calls.add_calls.Given as goal

abbrev pub invariant-loop-caller : goal.invariant-loop-caller
invariant-loop-caller l = sooner l.first (first_of (flat_map (λ u. flat_map (λ s. faults_of_call (map procedure_of l.scope) u s.0 s.1) (statements u.body)) (map procedure_of (drop l.caller-index l.caller-items)))) ≡ sooner l.initial.first (first_of (flat_map (λ u. flat_map (λ s. faults_of_call (map procedure_of l.scope) u s.0 s.1) (statements u.body)) (map procedure_of l.caller-items)))
