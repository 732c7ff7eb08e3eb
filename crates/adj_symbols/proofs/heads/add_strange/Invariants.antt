-- The faults of the names passed, and of those that are left.
use Rattle.std.proofs.Common.{◌≡◌, drop}
use Rattle.std.specs.Prelude.{not}
use Rattle.std.specs.List.{flat_map}
use Rattle.adj_tree.specs.View.{procedure_of}
use Rattle.def_names.specs.Fault.{fault, faults_if, first_of, sooner}
use Rattle.def_names.specs.Variables.{is_dummy}
use Rattle.adj_symbols.specs.View.{places_of}
use Rattle.adj_symbols.proofs.heads.add_strange.Given as goal

abbrev pub invariant-loop-place : goal.invariant-loop-place
invariant-loop-place l = sooner l.first (first_of (flat_map (λ p. faults_if (not (is_dummy (procedure_of l.outline) p.1)) (fault 23 p.0)) (places_of (drop l.place-index l.places)))) ≡ sooner l.initial.first (first_of (flat_map (λ p. faults_if (not (is_dummy (procedure_of l.outline) p.1)) (fault 23 p.0)) (places_of l.places)))
