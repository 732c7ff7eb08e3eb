-- Faults of units: names that no unit may have. (docs/REFUSALS.md, "Units")
use Rattle.std.specs.Prelude.{List, [], ◌++◌, map, flat_map}
use Rattle.adj_tree.specs.Code.{Procedure}
use Rattle.adj_tree.specs.declared.fault.Refusal.{Refusal}
use Rattle.def_names.specs.Statements.{At}
use Rattle.def_names.specs.Reserved.{is_reserved}
use Rattle.def_names.specs.Variables.{Name}
use Rattle.def_names.specs.Fault.{fault, faults_if, again}

-- the names of the units, each in its SUBROUTINE
abbrev pub unit_places : List Procedure → List (At Name)
unit_places ps = map (λ u. (u.line, u.name)) ps

-- 18: a unit named like an intrinsic or a runtime call
abbrev pub reserved_units : List Procedure → List Refusal
reserved_units ps = flat_map (λ p. faults_if (is_reserved p.1) (fault 18 p.0)) (unit_places ps)

-- 19: two units of one name
abbrev pub repeated_units : List Procedure → List Refusal
repeated_units ps = again 19 [] (unit_places ps)

abbrev pub unit_faults : List Procedure → List Refusal
unit_faults ps = reserved_units ps ++ repeated_units ps
