-- The adjoint units that are emitted are as the theorem on sweeps asks.
use Rattle.std.proofs.Common.{◌≡◌, ℕ, Bool, true, List, [], refl}
use Rattle.std.specs.Prelude.{Some}
use Rattle.adj_tree.specs.Code.{Var, plain, var_eq, Code, Procedure}
use Rattle.def_meaning.specs.Written.{find_unit}
use Rattle.def_meaning.specs.Read.{is_extent}
use Rattle.def_meaning.specs.Units.{declared}
use Rattle.def_meaning.specs.Apart.{has_name, AreApart}
use Rattle.def_sweep.specs.Naming.{adjoint_text, Named, name_in, naming, AreInside}
use Rattle.def_names.specs.Numbers.{Vars}
use Rattle.def_names.specs.Variables.{variables}
use Rattle.def_sweep.specs.Names.{adjoint_name}
use Rattle.law_sweep.proofs.Naming.{AreMadeInside}
use Rattle.def_sweep.specs.Plan.{Callee}
use Rattle.def_sweep.specs.Emission.{forward_with, backward_with, adjoint_body_with}
use Rattle.law_sweep.specs.Emitted.{DeclaredAlike, HasAdjoint}
use Rattle.def_sweep.specs.Marking.{ProgramMarks, first_statement, plan_in, callee_of}
use Rattle.def_sweep.specs.Program.{helpers_used_with, made_for_with, adjoint_names_with, adjoint_unit_with, schedules_in}
use Rattle.law_sweep.proofs.MadeParts.{helpers_made}
use Rattle.law_sweep.proofs.MadeUnits as any

-- ---- the adjoint of a unit

module _ (sc : Bool) (m : ProgramMarks) (ps : List Procedure) (units : List (List ℕ)) (u : Procedure) (apart : AreApart (variables u)) (inside : AreInside (variables u)) (dummies : (d : List ℕ) → is_extent d u.declarations ≡ true → has_name d u.dummies ≡ true) where
  abbrev made : List Var
  made = made_for_with sc m ps u

  abbrev ns : List Named
  ns = adjoint_names_with sc m ps units u

  abbrev a : Vars
  a = m.shadowed u.name

  abbrev forth : Code
  forth = forward_with (schedules_in sc ps) (plan_in m ps u) (first_statement ps u.name) 0 u.body

  abbrev back : Code
  back = backward_with (schedules_in sc ps) (plan_in m ps u) (first_statement ps u.name) 0 u.body

  abbrev callee : Callee
  callee = callee_of m ps u.name (Some u)

  abbrev unit : Procedure
  unit = adjoint_unit_with sc m ps units u [] []

  helpers_inside : AreMadeInside (helpers_used_with (schedules_in sc ps) (plan_in m ps u) (first_statement ps u.name) u.body)
  helpers_inside = helpers_made (schedules_in sc ps) (plan_in m ps u) (first_statement ps u.name) u.body

  abbrev body : Code
  body = adjoint_body_with (schedules_in sc ps) (plan_in m ps u) (first_statement ps u.name) u.line u.body [] []

  pub separates : (v w : Var) → var_eq (naming ns v) (naming ns w) ≡ var_eq v w
  separates = any.separates adjoint_text (adjoint_name ps u) a callee units u refl (helpers_used_with (schedules_in sc ps) (plan_in m ps u) (first_statement ps u.name) u.body) helpers_inside body apart inside dummies

  pub own : (x : List ℕ) → has_name x (variables u) ≡ true → name_in ns (plain x) ≡ x
  own = any.own adjoint_text (adjoint_name ps u) a callee units u refl (helpers_used_with (schedules_in sc ps) (plan_in m ps u) (first_statement ps u.name) u.body) helpers_inside body apart inside dummies

  pub own_dummy : (x : List ℕ) → has_name x u.dummies ≡ true → name_in ns (plain x) ≡ x
  own_dummy = any.own_dummy adjoint_text (adjoint_name ps u) a callee units u refl (helpers_used_with (schedules_in sc ps) (plan_in m ps u) (first_statement ps u.name) u.body) helpers_inside body apart inside dummies

  pub declared_alike : DeclaredAlike u unit (naming ns) callee
  declared_alike = any.declared_alike adjoint_text (adjoint_name ps u) a callee units u refl (helpers_used_with (schedules_in sc ps) (plan_in m ps u) (first_statement ps u.name) u.body) helpers_inside body apart inside dummies

  -- a program that has the adjoint unit has the adjoint that the theorem asks for
  pub has_adjoint_unit : (qs : List Procedure) → find_unit qs (adjoint_name ps u) ≡ Some unit → HasAdjoint qs u callee forth back
  has_adjoint_unit qs found = record {
    unit = unit;
    found = found;
    naming = naming ns;
    separates = record { at = separates };
    plainly_named = λ x. refl;
    named = λ actuals many. any.dummies_named adjoint_text (adjoint_name ps u) a callee units u refl (helpers_used_with (schedules_in sc ps) (plan_in m ps u) (first_statement ps u.name) u.body) helpers_inside body apart inside dummies u.dummies actuals own_dummy many;
    declared = declared_alike;
    body = refl;
  }
