-- The faults of what was passed, and of what is left.
use Rattle.std.proofs.Common.{◌≡◌, drop}
use Rattle.std.specs.Prelude.{flat_map, ◌||◌, is_some, map}
use Rattle.def_names.specs.Fault.{fault, faults_if, first_of, sooner}
use Rattle.adj_tree.specs.View.{procedure_of}
use Rattle.def_meaning.specs.Written.{find_unit}
use Rattle.def_names.specs.Reserved.{is_reserved}
use Rattle.adj_symbols.specs.View.{places_of}
use Rattle.adj_symbols.proofs.name_faults.add_taken.Given as goal

abbrev pub invariant-loop-place : goal.invariant-loop-place
invariant-loop-place l = sooner l.first (first_of (flat_map (λ p. faults_if (is_reserved p.1 || is_some (find_unit (map procedure_of l.scope) p.1)) (fault 18 p.0)) (places_of (drop l.place-index l.places)))) ≡ sooner l.initial.first (first_of (flat_map (λ p. faults_if (is_reserved p.1 || is_some (find_unit (map procedure_of l.scope) p.1)) (fault 18 p.0)) (places_of l.places)))
