-- The faults of what was passed, and of what is left.
use Rattle.std.proofs.Common.{◌≡◌, drop}
use Rattle.std.specs.Prelude.{flat_map, not}
use Rattle.def_names.specs.Fault.{fault, faults_if, first_of, sooner}
use Rattle.adj_tree.specs.View.{procedure_of}
use Rattle.def_names.specs.NameFaults.{has_rank}
use Rattle.adj_symbols.specs.View.{uses_of}
use Rattle.adj_symbols.proofs.name_faults.add_misused.Given as goal

abbrev pub invariant-loop-used : goal.invariant-loop-used
invariant-loop-used l = sooner l.first (first_of (flat_map (λ u. faults_if (not (has_rank (procedure_of l.outline) u.1)) (fault 9 u.0)) (uses_of (drop l.used-index l.uses)))) ≡ sooner l.initial.first (first_of (flat_map (λ u. faults_if (not (has_rank (procedure_of l.outline) u.1)) (fault 9 u.0)) (uses_of l.uses)))
