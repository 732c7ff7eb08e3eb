-- The name of a shadow in an adjoint unit doesn't depend on the unit's helpers.
use Rattle.std.proofs.Common.{◌≡◌, ℕ, Bool, List, [], ◌∷◌, ◌++◌, map, refl, sym, ap, ◌∙◌, if◌then◌else◌}
use Rattle.adj_tree.specs.Code.{Var, plain, shadow, helper, name_eq, Procedure}
use Rattle.def_names.specs.Fresh.{fresh}
use Rattle.def_names.specs.Reserved.{reserved}
use Rattle.def_names.specs.Variables.{variables}
use Rattle.def_sweep.specs.Naming.{adjoint_text, own, wanted, outside, named, Named, name_in}
use Rattle.def_sweep.specs.Marked.{names_in}
use Rattle.def_sweep.specs.MarkedProgram.{shadows_behind}
use Rattle.def_sweep.specs.Marking.{ProgramMarks, first_statement, plan_in}
use Rattle.def_sweep.specs.Program.{helpers_used_with, all_units, adjoint_names_with, schedules_in}
use Rattle.def_adjoint.specs.Shape.{shadow_table}
use Rattle.law_emitted.proofs.Tables.{AreHelpers, table_for}
use Rattle.law_emitted.proofs.Used.{used_helpers_with}

no_shadow : (taken : List (List ℕ)) (hs : List Var) → AreHelpers hs → (x : List ℕ) → name_in (named taken hs) (shadow x) ≡ outside (shadow x)
no_shadow taken [] h x = refl
no_shadow taken (plain y ∷ hs) h x = absurd h
no_shadow taken (shadow y ∷ hs) h x = absurd h
no_shadow taken (helper r k ∷ hs) h x = no_shadow (taken ++ (fresh (wanted (helper r k)) taken ∷ [])) hs h x

shadow_first : (taken ss : List (List ℕ)) (hs : List Var) → AreHelpers hs → (x : List ℕ) → name_in (named taken (map shadow ss ++ hs)) (shadow x) ≡ name_in (named taken (map shadow ss)) (shadow x)
shadow_first taken [] hs h x = no_shadow taken hs h x
shadow_first taken (s ∷ ss) hs h x = ap (λ n. if name_eq x s then fresh (wanted (shadow s)) taken else n) (shadow_first (taken ++ (fresh (wanted (shadow s)) taken ∷ [])) ss hs h x)

behind_own : (xs : List (List ℕ)) (ns : List Named) (x : List ℕ) → name_in (map own xs ++ ns) (shadow x) ≡ name_in ns (shadow x)
behind_own [] ns x = refl
behind_own (y ∷ xs) ns x = behind_own xs ns x

-- with any helpers
module _ (m : ProgramMarks) (ps : List Procedure) (head u : Procedure) (hs : List Var) (helpers : AreHelpers hs) where
  pub same_shadow_for : (x : List ℕ) → name_in (shadow_table m ps head u) (shadow x) ≡ name_in (table_for adjoint_text (variables u) (all_units m ps head) (m.shadowed u.name) hs) (shadow x)
  same_shadow_for x =
      let taken = variables u ++ (all_units m ps head ++ reserved) in
      let ss = names_in (m.shadowed u.name) (variables u) in
      behind_own (variables u) (named taken (map shadow ss)) x ∙ sym (shadow_first taken ss hs helpers x) ∙ sym (behind_own (variables u) (named taken (map shadow ss ++ hs)) x)

  -- so the dummies with the shadows behind them are those of either table
  pub same_dummies_for : (a : Var → Bool) (xs : List (List ℕ)) → shadows_behind a (table_for adjoint_text (variables u) (all_units m ps head) (m.shadowed u.name) hs) xs ≡ shadows_behind a (shadow_table m ps head u) xs
  same_dummies_for a [] = refl
  same_dummies_for a (x ∷ xs) = λ j. if a (plain x) then x ∷ sym (same_shadow_for x) j ∷ same_dummies_for a xs j else x ∷ same_dummies_for a xs j

pub same_dummies : (sb : Bool) (m : ProgramMarks) (ps : List Procedure) (head u : Procedure) (a : Var → Bool) (xs : List (List ℕ)) → shadows_behind a (adjoint_names_with sb m ps (all_units m ps head) u) xs ≡ shadows_behind a (shadow_table m ps head u) xs
same_dummies sb m ps head u =
    let hs = helpers_used_with (schedules_in sb ps) (plan_in m ps u) (first_statement ps u.name) u.body in
    same_dummies_for m ps head u hs (used_helpers_with (schedules_in sb ps) (plan_in m ps u) (first_statement ps u.name) u.body)
