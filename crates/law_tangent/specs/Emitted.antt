-- The emitted program has the tangents of units that the theorem asks for, and the units that stay.
use Rattle.std.specs.Prelude.{◌≡◌, ℕ, List, [], Bool, true, Some, if◌then◌else◌}
use Rattle.adj_tree.specs.Code.{name_eq, Procedure}
use Rattle.def_meaning.specs.Append.{◌+++◌}
use Rattle.def_meaning.specs.Read.{is_extent}
use Rattle.def_meaning.specs.Written.{find_unit}
use Rattle.def_names.specs.Variables.{variables}
use Rattle.def_meaning.specs.Apart.{has_name}
use Rattle.def_sweep.specs.Marked.{names_in}
use Rattle.def_sweep.specs.Naming.{AreInside}
use Rattle.def_sweep.specs.Declared.{unmarked}
use Rattle.def_sweep.specs.Marking.{arrays_of}
use Rattle.law_sweep.specs.Source.{is_unit}
use Rattle.def_tangent.specs.Forward.{Callee, tangents}
use Rattle.def_tangent.specs.Program.{Carried, tangent_name, plan_in, cleared, has_tangent, stays, emitted_units}
use Rattle.law_tangent.specs.Units.{HasTangent}

-- what calls know of a unit
abbrev pub callee_of : Carried → List Procedure → Procedure → Callee
callee_of on ps u = record { tangent = tangent_name ps u.name; dummies = u.dummies; carried = on u.name }

-- a unit whose tangent is emitted has it in the program, with its body under names of its own; names are of a text, and extents are dummies
abbrev pub TangentsThere : Type 0
TangentsThere =
    (on : Carried) (ps : List Procedure) (head : Procedure) (vars : List Bool) (name : List ℕ) (u : Procedure) → find_unit ps name ≡ Some u → has_tangent on ps head.name name ≡ true → AreInside (variables u) → ((d : List ℕ) → is_extent d u.declarations ≡ true → has_name d u.dummies ≡ true) →
    HasTangent (emitted_units on ps head vars ps) u (callee_of on ps u) (cleared (arrays_of u) u.line (if name_eq head.name u.name then names_in (on u.name) (unmarked u.dummies vars) else []) +++ tangents (plan_in on ps u.name) u.body)

-- a unit that stays is found as it was
abbrev pub StillThere : Type 0
StillThere =
    (on : Carried) (ps : List Procedure) (head : Procedure) (vars : List Bool) (name : List ℕ) → is_unit ps name ≡ true → stays on ps head.name name ≡ true → find_unit (emitted_units on ps head vars ps) name ≡ find_unit ps name
