-- What holds where faults are missing.
use Rattle.std.proofs.Common.{◌≡◌, ℕ, Bool, true, false, List, [], ◌∷◌, ◌++◌, refl, sym, ap, ◌∙◌}
use Rattle.std.specs.Prelude.{◌||◌}
use Rattle.adj_tree.specs.Code.{name_eq}
use Rattle.adj_tree.specs.declared.fault.Refusal.{Refusal}
use Rattle.adj_tree.proofs.Names.{name_refl, name_same}
use Rattle.def_meaning.proofs.Booleans.{or_first, or_second}
use Rattle.def_names.specs.Fault.{fault, faults_if, again}
use Rattle.def_meaning.specs.Apart.{has_name, AreApart}
use Rattle.def_names.specs.Statements.{At}
use Rattle.def_names.specs.Variables.{Name}
use Rattle.def_names.proofs.Lists.{names_at}

-- where two lists are empty together the first is empty
pub none_front : {A : Type 0} (xs ys : List A) → xs ++ ys ≡ [] → xs ≡ []
none_front [] ys h = refl
none_front (x ∷ xs) ys h = absurd cc

-- and the second
pub none_behind : {A : Type 0} (xs ys : List A) → xs ++ ys ≡ [] → ys ≡ []
none_behind [] ys h = h
none_behind (x ∷ xs) ys h = absurd cc

-- no fault where it isn't so
pub none_if : (b : Bool) (r : Refusal) → faults_if b r ≡ [] → b ≡ false
none_if true r h = absurd cc
none_if false r h = refl

-- a name that stood before doesn't stand again
not_again : (code : ℕ) (before : List Name) (ps : List (At Name)) → again code before ps ≡ [] → (x : Name) → has_name x before ≡ true → has_name x (names_at ps) ≡ false
not_again code before [] h x k = refl
not_again code before (p ∷ ps) h x k = go (name_eq x p.1) refl (not_again code (p.1 ∷ before) ps (none_behind (faults_if (has_name p.1 before) (fault code p.0)) (again code (p.1 ∷ before) ps) h) x (or_second (name_eq x p.1) (has_name x before) k))
  where
    first : has_name p.1 before ≡ false
    first = none_if (has_name p.1 before) (fault code p.0) (none_front (faults_if (has_name p.1 before) (fault code p.0)) (again code (p.1 ∷ before) ps) h)

    go : (b : Bool) → name_eq x p.1 ≡ b → has_name x (names_at ps) ≡ false → (b || has_name x (names_at ps)) ≡ false
    go true e ih = absurd (let q : true ≡ false = sym k ∙ ap (λ z. has_name z before) (name_same x p.1 e) ∙ first in cc)
    go false e ih = ih

-- places without a fault of that kind have names that are apart
pub apart_places : (code : ℕ) (before : List Name) (ps : List (At Name)) → again code before ps ≡ [] → AreApart (names_at ps)
apart_places code before [] h = tt
apart_places code before (p ∷ ps) h =
    let later : again code (p.1 ∷ before) ps ≡ [] = none_behind (faults_if (has_name p.1 before) (fault code p.0)) (again code (p.1 ∷ before) ps) h in
    (not_again code (p.1 ∷ before) ps later p.1 (or_first (name_eq p.1 p.1) (has_name p.1 before) (name_refl p.1)), apart_places code (p.1 ∷ before) ps later)
