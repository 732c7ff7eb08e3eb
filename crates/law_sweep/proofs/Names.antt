-- The names of the units that are made are free, and apart.
use Rattle.std.proofs.Common.{◌≡◌, ℕ, Bool, true, false, List, [], ◌∷◌, ◌++◌, refl, sym, ap, ◌∙◌, if◌then◌else◌, codes}
use Rattle.std.specs.Prelude.{◌||◌}
use Rattle.adj_tree.specs.Code.{name_eq, Procedure}
use Rattle.adj_tree.proofs.Names.{name_refl, name_same}
use Rattle.def_meaning.specs.Apart.{has_name}
use Rattle.def_names.specs.Fresh.{fresh}
use Rattle.def_names.proofs.Fresh.{fresh-is_free}
use Rattle.def_names.proofs.Variables.{or_assoc, or_false, or_right, has_apart}
use Rattle.def_meaning.proofs.Variables.{name_comm}
use Rattle.def_sweep.specs.Names.{named_after, named_list, adjoint_after}
pub use Rattle.law_sweep.specs.Source.{is_unit}

pub has-append : (x : List ℕ) (xs ys : List (List ℕ)) → has_name x (xs ++ ys) ≡ (has_name x xs || has_name x ys)
has-append x [] ys = refl
has-append x (y ∷ xs) ys = ap (λ b. name_eq x y || b) (has-append x xs ys) ∙ sym (or_assoc (name_eq x y) (has_name x xs) (has_name x ys))

-- the name that is made for a unit, and those that are taken then
module _ (ending : List ℕ) where
  abbrev pub made_name : List (List ℕ) → Procedure → List ℕ
  made_name taken u = fresh (u.name ++ ending) taken

  abbrev pub grown : List (List ℕ) → Procedure → List (List ℕ)
  grown taken u = taken ++ (made_name taken u ∷ [])

  -- the name of a unit's adjoint wasn't taken
  pub name_free : (taken : List (List ℕ)) (us : List Procedure) (x : List ℕ) → is_unit us x ≡ true → has_name (named_after ending taken us x) taken ≡ false
  name_free taken [] x h = absurd cc
  name_free taken (u ∷ us) x h = go (name_eq u.name x) h (name_free (grown taken u) us x)
    where
      go : (b : Bool) → (b || is_unit us x) ≡ true → (is_unit us x ≡ true → has_name (named_after ending (grown taken u) us x) (grown taken u) ≡ false) → has_name (if b then made_name taken u else named_after ending (grown taken u) us x) taken ≡ false
      go true h ih = fresh-is_free (u.name ++ ending) taken
      go false h ih =
          let rest = named_after ending (grown taken u) us x in
          (or_false (has_name rest taken) (has_name rest (made_name taken u ∷ [])) (sym (has-append rest taken (made_name taken u ∷ [])) ∙ ih h)).0

  -- nor is it the name of another's
  pub names_apart : (taken : List (List ℕ)) (us : List Procedure) (x y : List ℕ) → is_unit us x ≡ true → is_unit us y ≡ true → name_eq x y ≡ false → name_eq (named_after ending taken us x) (named_after ending taken us y) ≡ false
  names_apart taken [] x y h g n = absurd cc
  names_apart taken (u ∷ us) x y h g n = go (name_eq u.name x) refl (name_eq u.name y) refl h g (names_apart (grown taken u) us x y)
    where
      here : has_name (made_name taken u) (grown taken u) ≡ true
      here = has-append (made_name taken u) taken (made_name taken u ∷ []) ∙ or_right (has_name (made_name taken u) taken) (has_name (made_name taken u) (made_name taken u ∷ [])) (ap (λ b. b || false) (name_refl (made_name taken u)))

      go : (a : Bool) → name_eq u.name x ≡ a → (b : Bool) → name_eq u.name y ≡ b → (a || is_unit us x) ≡ true → (b || is_unit us y) ≡ true → (is_unit us x ≡ true → is_unit us y ≡ true → name_eq x y ≡ false → name_eq (named_after ending (grown taken u) us x) (named_after ending (grown taken u) us y) ≡ false) →
          name_eq (if a then made_name taken u else named_after ending (grown taken u) us x) (if b then made_name taken u else named_after ending (grown taken u) us y) ≡ false
      go true e true f h g ih = absurd (let p : true ≡ false = sym (name_refl y) ∙ ap (λ z. name_eq z y) (sym (name_same u.name y f) ∙ name_same u.name x e) ∙ n in cc)
      go true e false f h g ih = has_apart (made_name taken u) (named_after ending (grown taken u) us y) (grown taken u) here (name_free (grown taken u) us y g)
      go false e true f h g ih = name_comm (made_name taken u) (named_after ending (grown taken u) us x) (has_apart (made_name taken u) (named_after ending (grown taken u) us x) (grown taken u) here (name_free (grown taken u) us x h))
      go false e false f h g ih = ih h g n

  -- it is among all of them
  pub name_among : (taken : List (List ℕ)) (us : List Procedure) (x : List ℕ) → is_unit us x ≡ true → has_name (named_after ending taken us x) (named_list ending taken us) ≡ true
  name_among taken [] x h = absurd cc
  name_among taken (u ∷ us) x h = go (name_eq u.name x) h (name_among (grown taken u) us x)
    where
      go : (b : Bool) → (b || is_unit us x) ≡ true → (is_unit us x ≡ true → has_name (named_after ending (grown taken u) us x) (named_list ending (grown taken u) us) ≡ true) → has_name (if b then made_name taken u else named_after ending (grown taken u) us x) (made_name taken u ∷ named_list ending (grown taken u) us) ≡ true
      go true h ih = ap (λ b. b || has_name (made_name taken u) (named_list ending (grown taken u) us)) (name_refl (made_name taken u))
      go false h ih = or_right (name_eq (named_after ending (grown taken u) us x) (made_name taken u)) (has_name (named_after ending (grown taken u) us x) (named_list ending (grown taken u) us)) (ih h)

pub adjoint_free : (taken : List (List ℕ)) (us : List Procedure) (x : List ℕ) → is_unit us x ≡ true → has_name (adjoint_after taken us x) taken ≡ false
adjoint_free taken us x h = name_free (codes "_B") taken us x h

pub adjoints_apart : (taken : List (List ℕ)) (us : List Procedure) (x y : List ℕ) → is_unit us x ≡ true → is_unit us y ≡ true → name_eq x y ≡ false → name_eq (adjoint_after taken us x) (adjoint_after taken us y) ≡ false
adjoints_apart taken us x y h g n = names_apart (codes "_B") taken us x y h g n
