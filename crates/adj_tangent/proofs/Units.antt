-- The tangent of a unit is put together.
use Rattle.std.proofs.Common.{◌≡◌, ℕ, true, false, List, ◌++◌, map, refl, sym, ap, ◌∙◌}
use Rattle.std.specs.Prelude.{Option, Some}
use Rattle.adj_tree.specs.Code.{Var, plain, shadow, helper, work, temp, Code, Declaration, Procedure}
use Rattle.def_meaning.specs.Append.{◌+++◌}
use Rattle.def_meaning.specs.Rename.{rename}
use Rattle.def_meaning.specs.Written.{find_unit}
use Rattle.def_names.specs.Fault.{run_rules}
use Rattle.def_names.specs.Numbers.{Vars}
use Rattle.def_names.specs.Reserved.{reserved}
use Rattle.def_names.specs.Variables.{variables}
use Rattle.def_sweep.specs.Declared.{helpers_from, declared_helpers}
use Rattle.def_sweep.specs.Marked.{names_in}
use Rattle.def_sweep.specs.MarkedProgram.{shadows_behind, declared_behind}
use Rattle.def_sweep.specs.Marking.{arrays_of}
use Rattle.def_sweep.specs.Naming.{tangent_text, Named, named_for, unit_names_for, naming}
use Rattle.def_tangent.specs.Forward.{tangents}
use Rattle.def_tangent.specs.Program.{Carried, tangent_name, plan_in, parts_used, temps_used, helpers_used, cleared, tangent_unit}
use Rattle.law_sweep.proofs.Naming.{own-name}
use Rattle.law_emitted.specs.Checked.{IsChecked}
use Rattle.law_emitted.proofs.Lists.{each_found}
use Rattle.law_emitted.proofs.Over.{Any}
use Rattle.law_emitted.proofs.Sources.{UnitSound, all_sound}
use Rattle.law_emitted.proofs.Tables.{AreHelpers, has_var, helpers_append, from_helpers, plain_known_for}
use Rattle.law_emitted.proofs.Units.{source_formed}
use Rattle.adj_naming.specs.declared.names.Names.{Names}
use Rattle.adj_naming.specs.Sets.{AreDifferent}
use Rattle.adj_naming.specs.Table.{table_of, named_by}
use Rattle.adj_naming.proofs.Different.{different-append, different-from, none_common, are_of-from}
use Rattle.adj_weave_units.proofs.Renamed.{code_same}
use Rattle.adj_tangent.proofs.Renaming.{body_same}

-- the helpers of a unit stand once
pub helpers_different : (on : Vars) (c : Code) → AreDifferent (helpers_used on c)
helpers_different on c =
    let parts = helpers_from work 1 (parts_used on c) in
    let temps = helpers_from temp 1 (temps_used on c) in
    different-append parts temps (different-from work 1 (parts_used on c)) (different-from temp 1 (temps_used on c)) (none_common work temp parts temps refl (are_of-from work 1 (parts_used on c)) (are_of-from temp 1 (temps_used on c)))

module _ (c : Carried) (ps : List Procedure) (checked : IsChecked run_rules ps) (u : Procedure) (found : find_unit ps u.name ≡ Some u) (units at_first : List (List ℕ)) where
  abbrev a : Vars
  a = c u.name

  abbrev hs : List Var
  hs = helpers_used (c u.name) u.body

  -- the names of its variables
  abbrev pub ns : List Named
  ns = unit_names_for tangent_text (variables u) units (map shadow (names_in (c u.name) (variables u)) ++ helpers_used (c u.name) u.body)

  abbrev pub body : Code
  body = cleared (arrays_of u) u.line at_first +++ tangents (plan_in c ps u.name) u.body

  are_helpers : AreHelpers (helpers_used (c u.name) u.body)
  are_helpers = helpers_append (helpers_from work 1 (parts_used a u.body)) (helpers_from temp 1 (temps_used a u.body)) (from_helpers work 1 (parts_used a u.body)) (from_helpers temp 1 (temps_used a u.body))

  sound : UnitSound ps u
  sound = each_found (UnitSound ps) ps (all_sound run_rules ps checked) u.name u found

  -- a variable that has a name
  abbrev Q : Var → Option ℕ → Type 0
  Q v n = has_var v (unit_names_for tangent_text (variables u) units (map shadow (names_in (c u.name) (variables u)) ++ helpers_used (c u.name) u.body)) ≡ true

  abbrev A : Var → Type 0
  A v = Unit {0}

  -- the names of the text are kept
  pub text_kept : (n : Names) → table_of n ≡ ns → rename (named_by n) body ≡ rename (naming ns) body
  text_kept n t =
      let s = sound in
      body_same (named_by n) (naming ns) (λ x. ap (λ z. naming z (shadow x)) t) (λ o k. ap (λ z. naming z (helper o k)) t) (plan_in c ps u.name) (arrays_of u) u.line at_first u.body
      (code_same Q A Any (named_by n) (naming ns) same u.body (source_formed tangent_text units u a hs s.written s.free are_helpers ps s.kernel s.calls))
    where
      same : (v : Var) (k : Option ℕ) → Q v k → named_by n v ≡ naming ns v
      same (plain x) k q =
          let s = sound in
          let h = plain_known_for tangent_text (variables u) units a hs s.free are_helpers x q in
          ap plain (sym (own-name (variables u) (named_for tangent_text (variables u ++ (units ++ reserved)) (map shadow (names_in (c u.name) (variables u)) ++ helpers_used (c u.name) u.body)) x h))
      same (shadow x) k q = ap (λ z. naming z (shadow x)) t
      same (helper o j) k q = ap (λ z. naming z (helper o j)) t

  -- the parts make the tangent
  pub unit_is : (name : List ℕ) (t : List Named) (dummies : List (List ℕ)) (made : List Var) (declarations : List Declaration) (code : Code) → name ≡ tangent_name ps u.name → t ≡ ns → dummies ≡ shadows_behind a t u.dummies → made ≡ hs →
      declarations ≡ declared_behind a t u (variables u) ++ declared_helpers t u.line made → code ≡ rename (naming ns) body →
      (let p : Procedure = record { line = u.line; name = name; dummies = dummies; is_none = false; declarations = declarations; body = code } in p ≡ tangent_unit c ps units u at_first)
  unit_is name t dummies made declarations code hn ht hd hh hc hb =
      λ j. record {
        line = u.line;
        name = hn j;
        dummies = (hd ∙ ap (λ z. shadows_behind a z u.dummies) ht) j;
        is_none = false;
        declarations = (hc ∙ (λ k. declared_behind a (ht k) u (variables u) ++ declared_helpers (ht k) u.line (hh k))) j;
        body = hb j;
      }
