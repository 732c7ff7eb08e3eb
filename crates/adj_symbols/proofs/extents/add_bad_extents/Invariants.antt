-- The faults of the declarations passed, and of those that are left.
use Rattle.std.proofs.Common.{◌≡◌, map, drop}
use Rattle.std.specs.Prelude.{flat_map}
use Rattle.adj_tree.specs.View.{declaration_of, procedure_of}
use Rattle.def_names.specs.NameFaults.{has_bad_extents}
use Rattle.def_names.specs.Fault.{fault, faults_if, first_of, sooner}
use Rattle.adj_symbols.proofs.extents.add_bad_extents.Given as goal

abbrev pub invariant-loop-decl : goal.invariant-loop-decl
invariant-loop-decl l = sooner l.first (first_of (flat_map (λ d. faults_if (has_bad_extents (procedure_of l.outline) d) (fault 12 d.line)) (map declaration_of (drop l.decl-index l.decls)))) ≡ sooner l.initial.first (first_of (flat_map (λ d. faults_if (has_bad_extents (procedure_of l.outline) d) (fault 12 d.line)) (map declaration_of l.decls)))
