-- The tangents of units that are emitted are as the theorem asks.
use Rattle.std.proofs.Common.{◌≡◌, ℕ, true, List, refl}
use Rattle.std.specs.Prelude.{Some}
use Rattle.adj_tree.specs.Code.{work, temp, Code, Procedure}
use Rattle.def_meaning.specs.Written.{find_unit}
use Rattle.def_meaning.specs.Read.{is_extent}
use Rattle.def_meaning.specs.Append.{◌+++◌}
use Rattle.def_names.specs.Variables.{variables}
use Rattle.def_meaning.specs.Apart.{has_name, AreApart}
use Rattle.def_sweep.specs.Naming.{tangent_text, AreInside}
use Rattle.def_names.specs.Numbers.{Vars}
use Rattle.def_sweep.specs.Declared.{helpers_from}
use Rattle.law_sweep.proofs.Naming.{AreMadeInside}
use Rattle.def_sweep.specs.Marking.{arrays_of}
use Rattle.law_sweep.proofs.MadeParts.{made-append, helpers-inside}
use Rattle.law_sweep.proofs.MadeUnits.{has_unit}
use Rattle.def_tangent.specs.Forward.{Callee, tangents}
use Rattle.law_tangent.specs.Units.{as_shadowed, HasTangent}
use Rattle.def_tangent.specs.Program.{Carried, helpers_used, parts_used, temps_used, tangent_name, plan_in, cleared, tangent_unit}

-- the helpers' names are of a text
pub helpers_made : (on : Vars) (c : Code) → AreMadeInside (helpers_used on c)
helpers_made on c = made-append (helpers_from work 1 (parts_used on c)) _ (helpers-inside work 1 (parts_used on c)) (helpers-inside temp 1 (temps_used on c))

module _ (c : Carried) (ps : List Procedure) (units : List (List ℕ)) (u : Procedure) (at_first : List (List ℕ)) where
  -- what calls know of the tangent of a unit
  abbrev pub own_callee : Callee
  own_callee = record { tangent = tangent_name ps u.name; dummies = u.dummies; carried = c u.name }

  abbrev pub own_code : Code
  own_code = cleared (arrays_of u) u.line at_first +++ tangents (plan_in c ps u.name) u.body

  -- a program that has the tangent unit has the tangent that the theorem asks for
  pub has_tangent_unit : AreApart (variables u) → AreInside (variables u) → ((d : List ℕ) → is_extent d u.declarations ≡ true → has_name d u.dummies ≡ true) → (qs : List Procedure) → find_unit qs (tangent_name ps u.name) ≡ Some (tangent_unit c ps units u at_first) → HasTangent qs u own_callee own_code
  has_tangent_unit apart inside dummies qs found =
      has_unit tangent_text (tangent_name ps u.name) (c u.name) (as_shadowed own_callee) units u refl (helpers_used (c u.name) u.body) (helpers_made (c u.name) u.body) own_code apart inside dummies qs found
