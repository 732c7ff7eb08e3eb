-- Names, entries and events: what the run of the head's adjoint needs of them.
use Rattle.std.proofs.Common.{◌≡◌, ℕ, Bool, true, false, List, [], ◌∷◌, refl, sym, ap, ◌∙◌, if◌then◌else◌}
use Rattle.std.specs.Prelude.{ℤ, pos, ◌||◌}
use Rattle.adj_tree.specs.Code.{plain, name_eq}
use Rattle.adj_tree.proofs.Names.{name_same}
use Rattle.def_meaning.specs.Numbers.{Numbers}
use Rattle.def_meaning.specs.Units.{Actual, entry_store}
use Rattle.def_meaning.specs.Apart.{has_name}
use Rattle.def_names.specs.Numbers.{Vars}
use Rattle.def_sweep.specs.Marked.{names_in}
use Rattle.def_sweep.specs.Facts.{In}
use Rattle.def_sweep.specs.Declared.{unmarked}
use Rattle.def_names.proofs.Variables.{or_false, or_right}

-- ---- lists of names

pub unmarked_in : (x : List ℕ) (xs : List (List ℕ)) (marks : List Bool) → has_name x (unmarked xs marks) ≡ true → has_name x xs ≡ true
unmarked_in x [] marks h = absurd cc
unmarked_in x (y ∷ xs) [] h = go (name_eq x y) h (unmarked_in x xs [])
  where
    go : (b : Bool) → (b || has_name x (unmarked xs [])) ≡ true → (has_name x (unmarked xs []) ≡ true → has_name x xs ≡ true) → (b || has_name x xs) ≡ true
    go true h ih = refl
    go false h ih = ih h
unmarked_in x (y ∷ xs) (true ∷ marks) h = or_right (name_eq x y) (has_name x xs) (unmarked_in x xs marks h)
unmarked_in x (y ∷ xs) (false ∷ marks) h = go (name_eq x y) h (unmarked_in x xs marks)
  where
    go : (b : Bool) → (b || has_name x (unmarked xs marks)) ≡ true → (has_name x (unmarked xs marks) ≡ true → has_name x xs ≡ true) → (b || has_name x xs) ≡ true
    go true h ih = refl
    go false h ih = ih h

pub among_in : (a : Vars) (ys : List (List ℕ)) (y : List ℕ) → has_name y ys ≡ true → In (plain y) a → has_name y (names_in a ys) ≡ true
among_in a [] y h n = cc
among_in a (x ∷ ys) y h n = go (a (plain x)) refl (name_eq y x) refl h (λ g. among_in a ys y g n)
  where
    go : (b : Bool) → a (plain x) ≡ b → (e : Bool) → name_eq y x ≡ e → (e || has_name y ys) ≡ true → (has_name y ys ≡ true → has_name y (names_in a ys) ≡ true) → has_name y (if b then x ∷ names_in a ys else names_in a ys) ≡ true
    go true p true e h ih = ap (λ t. t || has_name y (names_in a ys)) e
    go true p false e h ih = or_right (name_eq y x) (has_name y (names_in a ys)) (ih h)
    go false p true e h ih = absurd (let c : true ≡ false = sym n ∙ ap (λ z. a (plain z)) (name_same y x e) ∙ p in cc)
    go false p false e h ih = ih h

pub among_from : (a : Vars) (ys : List (List ℕ)) (y : List ℕ) → has_name y (names_in a ys) ≡ true → has_name y ys ≡ true
among_from a [] y h = absurd cc
among_from a (x ∷ ys) y h = go (a (plain x)) (name_eq y x) h (among_from a ys y)
  where
    go : (b e : Bool) → has_name y (if b then x ∷ names_in a ys else names_in a ys) ≡ true → (has_name y (names_in a ys) ≡ true → has_name y ys ≡ true) → (name_eq y x || has_name y ys) ≡ true
    go true e h ih = either_of (name_eq y x) h ih
      where
        either_of : (b : Bool) → (b || has_name y (names_in a ys)) ≡ true → (has_name y (names_in a ys) ≡ true → has_name y ys ≡ true) → (b || has_name y ys) ≡ true
        either_of true h ih = refl
        either_of false h ih = ih h
    go false e h ih = or_right (name_eq y x) (has_name y ys) (ih h)

pub among_out : (a : Vars) (ys : List (List ℕ)) (y : List ℕ) → has_name y ys ≡ false → has_name y (names_in a ys) ≡ false
among_out a [] y h = refl
among_out a (x ∷ ys) y h = go (a (plain x)) (or_false (name_eq y x) (has_name y ys) h) (among_out a ys y)
  where
    go : (b : Bool) → (name_eq y x ≡ false) × (has_name y ys ≡ false) → (has_name y ys ≡ false → has_name y (names_in a ys) ≡ false) → has_name y (if b then x ∷ names_in a ys else names_in a ys) ≡ false
    go true p ih = rw p.0 (ih p.1)
    go false p ih = ih p.1

-- words that count for a set alone
pub counts : (b : Bool) (z : ℤ) → (b ≡ true → z ≡ pos 0) → (if b then z else pos 0) ≡ pos 0
counts true z h = h refl
counts false z h = refl

-- a variable that is no dummy is 0 at the entry
pub entry_other : {C : Type 0} (n : Numbers C) (xs : List (List ℕ)) (got : List (Actual C)) (y : List ℕ) (j : ℕ) → has_name y xs ≡ false → entry_store n xs got (plain y) j ≡ n.of_word (pos 0)
entry_other n [] got y j h = refl
entry_other n (x ∷ xs) [] y j h = refl
entry_other n (x ∷ xs) (a ∷ got) y j h = let p = or_false (name_eq y x) (has_name y xs) h in rw p.0 (entry_other n xs got y j p.1)
