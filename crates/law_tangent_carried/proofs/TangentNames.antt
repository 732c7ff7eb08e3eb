-- The names in a tangent keep its variables apart, and those of its unit are as they were.
use Rattle.std.proofs.Common.{◌≡◌, ℕ, true, List, [], refl}
use Rattle.adj_tree.specs.Code.{Var, var_eq, plain, Code, Procedure}
use Rattle.def_meaning.specs.Read.{is_extent}
use Rattle.def_meaning.specs.Apart.{has_name}
use Rattle.def_names.specs.Variables.{variables}
use Rattle.def_sweep.specs.Naming.{tangent_text, name_in, naming, AreInside}
use Rattle.def_tangent.specs.Program.{Carried, helpers_used, tangent_name, names_of_unit}
use Rattle.law_sweep.proofs.Variables.{variables_apart}
use Rattle.law_sweep.proofs.MadeUnits as made
use Rattle.law_tangent.specs.Units.{as_shadowed}
use Rattle.law_tangent.proofs.Made.{helpers_made, own_callee, own_code}

-- what is asked of the unit: its names are of a text, and extents are dummies
abbrev pub IsOrderly : Procedure → Type 0
IsOrderly u = AreInside (variables u) × ((d : List ℕ) → is_extent d u.declarations ≡ true → has_name d u.dummies ≡ true)

module _ (c : Carried) (ps : List Procedure) (units : List (List ℕ)) (u : Procedure) (orderly : IsOrderly u) where
  abbrev code : Code
  code = own_code c ps units u []

  pub tangent_apart : (v w : Var) → var_eq (naming (names_of_unit (c u.name) units u) v) (naming (names_of_unit (c u.name) units u) w) ≡ var_eq v w
  tangent_apart = made.separates tangent_text (tangent_name ps u.name) (c u.name) (as_shadowed (own_callee c ps units u [])) units u refl (helpers_used (c u.name) u.body) (helpers_made (c u.name) u.body) code (variables_apart u) orderly.0 orderly.1

  pub tangent_keeps : (x : List ℕ) → has_name x (variables u) ≡ true → name_in (names_of_unit (c u.name) units u) (plain x) ≡ x
  tangent_keeps = made.own tangent_text (tangent_name ps u.name) (c u.name) (as_shadowed (own_callee c ps units u [])) units u refl (helpers_used (c u.name) u.body) (helpers_made (c u.name) u.body) code (variables_apart u) orderly.0 orderly.1
