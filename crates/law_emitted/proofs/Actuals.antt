-- The actuals of CALLs in the sweeps: distinct variables, which fit the dummies of the emitted units.
use Rattle.std.proofs.Common.{◌≡◌, ℕ, Bool, true, false, List, [], ◌∷◌, map, refl, ap, ◌∙◌, if◌then◌else◌}
use Rattle.std.specs.Prelude.{◌||◌, ◌==◌, Some}
use Rattle.adj_tree.specs.Code.{Var, plain, shadow, name_eq, var, Terms, none, more, Procedure}
use Rattle.adj_tree.proofs.Names.{name_refl}
use Rattle.def_meaning.specs.Written.{find_unit}
use Rattle.def_meaning.specs.Rename.{rename_terms}
use Rattle.def_names.specs.Variables.{rank}
use Rattle.def_names.specs.CallFaults.{are_actuals_for}
use Rattle.def_meaning.specs.Apart.{has_name, AreApart}
use Rattle.def_sweep.specs.Callees.{nothing}
use Rattle.def_sweep.specs.Naming.{Named, name_in}
use Rattle.def_sweep.specs.MarkedProgram.{shadows_behind}
use Rattle.def_names.specs.Numbers.{Vars}
use Rattle.def_names.proofs.Variables.{and_true, or_false, or_left, or_right}
use Rattle.def_sweep.specs.Plan.{names_of, actuals_named}
use Rattle.def_sweep.specs.Rows.{with_shadows}
use Rattle.law_emitted.specs.Shadowed.{AreCarried}
use Rattle.law_emitted.proofs.Tables.{among}
use Rattle.law_emitted.proofs.Apart.{VarsApart}

-- variables as actuals
abbrev pub terms_of : List Var → Terms
terms_of [] = none
terms_of (v ∷ vs) = more (var v) (terms_of vs)

pub plain_terms : (given : List (List ℕ)) → actuals_named given ≡ terms_of (map plain given)
plain_terms [] = refl
plain_terms (a ∷ given) = ap (λ l. more (var (plain a)) l) (plain_terms given)

plain_among : (a : List ℕ) (given : List (List ℕ)) → among (plain a) (map plain given) ≡ has_name a given
plain_among a [] = refl
plain_among a (b ∷ given) = ap (λ t. name_eq a b || t) (plain_among a given)

pub plain_apart : (given : List (List ℕ)) → AreApart given → VarsApart (map plain given)
plain_apart [] h = tt
plain_apart (a ∷ given) h = (plain_among a given ∙ h.0, plain_apart given h.1)

-- those of the call of an adjoint
abbrev pub given_vars : Vars → List (List ℕ) → List (List ℕ) → List Var
given_vars sh [] given = []
given_vars sh (d ∷ ds) [] = []
given_vars sh (d ∷ ds) (a ∷ given) = if sh (plain d) then plain a ∷ shadow a ∷ given_vars sh ds given else plain a ∷ given_vars sh ds given

pub given_terms : (sh : Vars) (ds given : List (List ℕ)) → with_shadows sh ds given ≡ terms_of (given_vars sh ds given)
given_terms sh [] given = refl
given_terms sh (d ∷ ds) [] = refl
given_terms sh (d ∷ ds) (a ∷ given) = go (sh (plain d)) (given_terms sh ds given)
  where
    go : (b : Bool) → with_shadows sh ds given ≡ terms_of (given_vars sh ds given) → (if b then more (var (plain a)) (more (var (shadow a)) (with_shadows sh ds given)) else more (var (plain a)) (with_shadows sh ds given)) ≡ terms_of (if b then plain a ∷ shadow a ∷ given_vars sh ds given else plain a ∷ given_vars sh ds given)
    go true ih = ap (λ l. more (var (plain a)) (more (var (shadow a)) l)) ih
    go false ih = ap (λ l. more (var (plain a)) l) ih

-- a name that isn't given stands in no actual, and neither does its shadow
not_given : (sh : Vars) (a : List ℕ) (ds given : List (List ℕ)) → has_name a given ≡ false → (among (plain a) (given_vars sh ds given) ≡ false) × (among (shadow a) (given_vars sh ds given) ≡ false)
not_given sh a [] given h = (refl, refl)
not_given sh a (d ∷ ds) [] h = (refl, refl)
not_given sh a (d ∷ ds) (b ∷ given) h = let n = or_false (name_eq a b) (has_name a given) h in go (sh (plain d)) n.0 (not_given sh a ds given n.1)
  where
    go : (t : Bool) → name_eq a b ≡ false → (among (plain a) (given_vars sh ds given) ≡ false) × (among (shadow a) (given_vars sh ds given) ≡ false) →
        (among (plain a) (if t then plain b ∷ shadow b ∷ given_vars sh ds given else plain b ∷ given_vars sh ds given) ≡ false) × (among (shadow a) (if t then plain b ∷ shadow b ∷ given_vars sh ds given else plain b ∷ given_vars sh ds given) ≡ false)
    go true e ih = (rw (e, ih.0) refl, rw (e, ih.1) refl)
    go false e ih = (rw (e, ih.0) refl, ih.1)

pub given_apart : (sh : Vars) (ds given : List (List ℕ)) → AreApart given → VarsApart (given_vars sh ds given)
given_apart sh [] given h = tt
given_apart sh (d ∷ ds) [] h = tt
given_apart sh (d ∷ ds) (a ∷ given) h = let n = not_given sh a ds given h.0 in go (sh (plain d)) n (given_apart sh ds given h.1)
  where
    go : (t : Bool) → (among (plain a) (given_vars sh ds given) ≡ false) × (among (shadow a) (given_vars sh ds given) ≡ false) → VarsApart (given_vars sh ds given) → VarsApart (if t then plain a ∷ shadow a ∷ given_vars sh ds given else plain a ∷ given_vars sh ds given)
    go true n ih = (n.0, (n.1, ih))
    go false n ih = (n.0, ih)

-- the names of actuals that are names are these
pub named_back : (given : List (List ℕ)) → names_of (actuals_named given) ≡ given
named_back [] = refl
named_back (a ∷ given) = ap (λ l. a ∷ l) (named_back given)

-- ---- a CALL fits where it stands in an emitted unit

-- the unit is there, the actuals are distinct variables, and under their names they fit its dummies
pub record Fits (qs : List Procedure) (v : Procedure) (named : Var → Var) (name : List ℕ) (args : Terms) : Type 0 where
  pub unit : Procedure
  pub found : find_unit qs name ≡ Some unit
  pub fit : are_actuals_for v unit unit.dummies (rename_terms named args) ≡ true
  pub variables : List Var
  pub are : args ≡ terms_of variables
  pub apart : VarsApart variables

module _ (u v : Procedure) (nm : Var → List ℕ) (own : Vars) (plain_rank : (x : List ℕ) → rank v (nm (plain x)) ≡ rank u x) (shadow_rank : (x : List ℕ) → own (plain x) ≡ true → rank v (nm (shadow x)) ≡ rank u x) where
  abbrev named : Var → Var
  named w = plain (nm w)

  -- actuals fit the dummies of a unit that is emitted as it is
  pub plain_fit : (w : Procedure) (ds given : List (List ℕ)) → are_actuals_for u w ds (actuals_named given) ≡ true → are_actuals_for v w ds (rename_terms named (actuals_named given)) ≡ true
  plain_fit w [] [] h = refl
  plain_fit w [] (a ∷ given) h = absurd cc
  plain_fit w (d ∷ ds) [] h = absurd cc
  plain_fit w (d ∷ ds) (a ∷ given) h =
      let both = and_true (rank u a == rank w d) (are_actuals_for u w ds (actuals_named given)) h in
      rw (ap (λ k. k == rank w d) (plain_rank a) ∙ both.0, plain_fit w ds given both.1) refl

  -- and those of the adjoint of one
  pub shadow_fit : (w adj : Procedure) (sh : Vars) (ns : List Named) → ((d : List ℕ) → has_name d w.dummies ≡ true → rank adj d ≡ rank w d) → ((d : List ℕ) → sh (plain d) ≡ true → rank adj (name_in ns (shadow d)) ≡ rank w d) → (ds given : List (List ℕ)) → ((d : List ℕ) → has_name d ds ≡ true → has_name d w.dummies ≡ true) → are_actuals_for u w ds (actuals_named given) ≡ true → AreCarried sh own ds given → are_actuals_for v adj (shadows_behind sh ns ds) (rename_terms named (with_shadows sh ds given)) ≡ true
  shadow_fit w adj sh ns rp rs [] [] inside h c = refl
  shadow_fit w adj sh ns rp rs [] (a ∷ given) inside h c = absurd cc
  shadow_fit w adj sh ns rp rs (d ∷ ds) [] inside h c = absurd cc
  shadow_fit w adj sh ns rp rs (d ∷ ds) (a ∷ given) inside h c =
      go (sh (plain d)) refl (shadow_fit w adj sh ns rp rs ds given (λ e k. inside e (or_right (name_eq e d) (has_name e ds) k)) both.1 c.1)
    where
      both : ((rank u a == rank w d) ≡ true) × (are_actuals_for u w ds (actuals_named given) ≡ true)
      both = and_true (rank u a == rank w d) (are_actuals_for u w ds (actuals_named given)) h

      one : (rank v (nm (plain a)) == rank adj d) ≡ true
      one = (λ i. plain_rank a i == rp d (inside d (or_left (name_eq d d) (has_name d ds) (name_refl d))) i) ∙ both.0

      two : sh (plain d) ≡ true → (rank v (nm (shadow a)) == rank adj (name_in ns (shadow d))) ≡ true
      two e = (λ i. shadow_rank a (c.0 e) i == rs d e i) ∙ both.0

      go : (b : Bool) → sh (plain d) ≡ b → are_actuals_for v adj (shadows_behind sh ns ds) (rename_terms named (with_shadows sh ds given)) ≡ true →
          are_actuals_for v adj (if b then d ∷ name_in ns (shadow d) ∷ shadows_behind sh ns ds else d ∷ shadows_behind sh ns ds) (rename_terms named (if b then more (var (plain a)) (more (var (shadow a)) (with_shadows sh ds given)) else more (var (plain a)) (with_shadows sh ds given))) ≡ true
      go true e ih = rw (one, two e, ih) refl
      go false e ih = rw (one, ih) refl

-- the call of a unit without shadows has the actuals as they are
pub plainly_given : (u w : Procedure) (ds given : List (List ℕ)) → are_actuals_for u w ds (actuals_named given) ≡ true → with_shadows nothing ds given ≡ actuals_named given
plainly_given u w [] [] h = refl
plainly_given u w [] (a ∷ given) h = absurd cc
plainly_given u w (d ∷ ds) [] h = absurd cc
plainly_given u w (d ∷ ds) (a ∷ given) h = ap (λ l. more (var (plain a)) l) (plainly_given u w ds given (and_true (rank u a == rank w d) (are_actuals_for u w ds (actuals_named given)) h).1)
