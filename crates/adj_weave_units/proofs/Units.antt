-- The variables of a unit that is made.
use Rattle.std.proofs.Common.{◌≡◌, ℕ, Bool, true, false, if◌then◌else◌, List, [], ◌∷◌, refl, sym, ap, ◌∙◌}
use Rattle.std.specs.Prelude.{◌||◌, ◌==◌, not, length}
use Rattle.adj_tree.specs.Code.{Var, plain, shadow, helper, Procedure, var_eq, name_eq}
use Rattle.def_meaning.specs.Apart.{is_named, has_name, AreApart}
use Rattle.def_names.specs.Numbers.{Vars}
use Rattle.def_sweep.specs.Marked.{names_in}
use Rattle.def_names.proofs.Variables.{or_false}
use Rattle.def_sweep.specs.Marking.{arrays_of}
use Rattle.law_emitted.proofs.Tables.{among}
use Rattle.law_emitted.proofs.Apart.{VarsApart}
use Rattle.adj_naming.specs.Sets.{has_variable, AreDifferent}
use Rattle.adj_weave_units.proofs.Declared.{shadow_undeclared, helper_undeclared}

-- ---- helpers

same_among : (v : Var) (vs : List Var) → has_variable v vs ≡ among v vs
same_among v [] = refl
same_among v (w ∷ vs) = ap (λ b. var_eq v w || b) (same_among v vs)

different : (vs : List Var) → VarsApart vs → AreDifferent vs
different [] h = tt
different (v ∷ vs) h = (same_among v vs ∙ h.0, different vs h.1)

-- ---- variables

-- those of the variables that have a shadow are apart
not_named : (a : Vars) (x : List ℕ) (xs : List (List ℕ)) → has_name x xs ≡ false → has_name x (names_in a xs) ≡ false
not_named a x [] h = refl
not_named a x (y ∷ xs) h = let p = or_false (name_eq x y) (has_name x xs) h in go (a (plain y)) p.0 (not_named a x xs p.1)
  where
    go : (b : Bool) → name_eq x y ≡ false → has_name x (names_in a xs) ≡ false → has_name x (if b then y ∷ names_in a xs else names_in a xs) ≡ false
    go true d e = rw (d, e) refl
    go false d e = e

pub shadowed_apart : (a : Vars) (xs : List (List ℕ)) → AreApart xs → AreApart (names_in a xs)
shadowed_apart a [] h = tt
shadowed_apart a (x ∷ xs) h = go (a (plain x)) (shadowed_apart a xs h.1)
  where
    go : (b : Bool) → AreApart (names_in a xs) → AreApart (if b then x ∷ names_in a xs else names_in a xs)
    go true ih = (not_named a x xs h.0, ih)
    go false ih = ih

-- the variables that are known as arrays are those that the unit declares with extents
pub arrays_are : (u : Procedure) (arrays : List (List ℕ)) → ((x : List ℕ) → has_name x arrays ≡ arrays_of u (plain x)) → is_named arrays ≡ arrays_of u
arrays_are u arrays h = λ i v. same v i
  where
    same : (v : Var) → is_named arrays v ≡ arrays_of u v
    same (plain x) = h x
    same (shadow x) = sym (ap (λ (l : List _). not (length l == 0)) (shadow_undeclared u.declarations x))
    same (helper r k) = sym (ap (λ (l : List _). not (length l == 0)) (helper_undeclared u.declarations r k))
