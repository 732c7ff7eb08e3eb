-- The faults of the units passed, and of those that are left.
use Rattle.std.proofs.Common.{◌≡◌, map, drop}
use Rattle.std.specs.List.{flat_map}
use Rattle.adj_tree.specs.View.{procedure_of}
use Rattle.def_names.specs.Calls.{calls, calls_lead}
use Rattle.def_names.specs.Fault.{fault, faults_if, first_of, sooner}
use Rattle.adj_symbols.proofs.cycles.add_cycles.Given as goal

abbrev pub invariant-loop-outline : goal.invariant-loop-outline
invariant-loop-outline l = sooner l.first (first_of (flat_map (λ u. flat_map (λ c. faults_if (calls_lead (map procedure_of l.scope) (c.1).0 u.name) (fault 16 c.0)) (calls u)) (map procedure_of (drop l.outline-index l.outline-items)))) ≡ sooner l.initial.first (first_of (flat_map (λ u. flat_map (λ c. faults_if (calls_lead (map procedure_of l.scope) (c.1).0 u.name) (fault 16 c.0)) (calls u)) (map procedure_of l.outline-items)))
