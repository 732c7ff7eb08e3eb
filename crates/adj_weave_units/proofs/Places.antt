-- Members of lists at their places, and units that are found by their names.
use Rattle.std.proofs.Common.{◌≡◌, ℕ, zero, suc, ◌+◌, ◌<◌, Bool, true, false, List, [], ◌∷◌, map, length, get_or, nat_lt, cond, Some, None, refl, sym, ap, ◌∙◌, subst, arith, if◌then◌else◌}
use Rattle.std.specs.Prelude.{◌||◌, not, position}
use Rattle.std.specs.List.{position_or_len}
use Rattle.std.proofs.lemmas.Bool.{lt-ltb}
use Rattle.std.proofs.lemmas.List.{length-map}
use Rattle.std.proofs.lemmas.List.Quantifiers.{position-Some}
use Rattle.adj_tree.specs.Code.{name_eq, Procedure}
use Rattle.adj_tree.proofs.Names.{name_refl, name_same}
use Rattle.def_meaning.specs.Written.{find_unit}
use Rattle.def_meaning.specs.Apart.{has_name, AreApart}
use Rattle.def_sweep.specs.Declared.{unit_name, unit_at}
use Rattle.def_names.proofs.Variables.{or_left, or_right, has_apart}
use Rattle.law_emitted.proofs.Lists.{Each}
use Rattle.law_emitted.proofs.Callings.{Found, all_found}
use Rattle.adj_naming.proofs.Places.{get_or_any, mapped_at}

-- x stands at the place j
pub record At {A : Type 0} (xs : List A) (j : ℕ) (x : A) : Type 0 where
  pub within : j < length xs
  pub is : x ≡ get_or xs j x

pub at_first : {A : Type 0} (x : A) (xs : List A) → At (x ∷ xs) 0 x
at_first x xs = record { within = omega arith; is = refl }

pub at_next : {A : Type 0} (x y : A) (xs : List A) (j : ℕ) → At xs j y → At (x ∷ xs) (suc j) y
at_next x y xs j h = let l = h.within in record { within = omega arith; is = h.is }

pub at_rest : {A : Type 0} (x y : A) (xs : List A) (j : ℕ) → At (x ∷ xs) (suc j) y → At xs j y
at_rest x y xs j h = let l = h.within in record { within = omega arith; is = h.is }

-- at one place stands one member
pub at_one : {A : Type 0} (xs : List A) (j : ℕ) (x y : A) → At xs j x → At xs j y → x ≡ y
at_one xs j x y h g = h.is ∙ get_or_any xs j x y h.within ∙ sym g.is

pub at_map : {A B : Type 0} (f : A → B) (xs : List A) (j : ℕ) (x : A) → At xs j x → At (map f xs) j (f x)
at_map f xs j x h = let l = h.within in let m = length-map xs f in record { within = omega arith; is = mapped_at f xs j x h.within h.is }

-- within a list there is one
pub at_there : {A : Type 0} (xs : List A) (j : ℕ) → j < length xs → (x : A) × At xs j x
at_there [] j h = absurd (omega arith)
at_there (x ∷ xs) zero h = (x, at_first x xs)
at_there (x ∷ xs) (suc j) h = let r = at_there xs j (omega arith) in (r.0, at_next x r.0 xs j r.1)

pub each_at : {A : Type 0} (P : A → Type 0) (xs : List A) (j : ℕ) (x : A) → Each P xs → At xs j x → P x
each_at P [] j x e h = absurd (let l = h.within in omega arith)
each_at P (y ∷ ys) zero x e h = subst P (sym h.is) e.0
each_at P (y ∷ ys) (suc j) x e h = each_at P ys j x e.1 (at_rest y x ys j h)

-- lists are the same where they have the same members at the same places
pub same_lists : {A B : Type 0} (f : A → B) (xs : List A) (ys : List B) → length ys ≡ length xs → ((j : ℕ) (x : A) (y : B) → At xs j x → At ys j y → y ≡ f x) → ys ≡ map f xs
same_lists f [] [] l h = refl
same_lists f [] (y ∷ ys) l h = absurd (omega arith)
same_lists f (x ∷ xs) [] l h = absurd (omega arith)
same_lists f (x ∷ xs) (y ∷ ys) l h =
    let first = h 0 x y (at_first x xs) (at_first y ys) in
    let rest = same_lists f xs ys (omega arith) (λ j z w a b. h (suc j) z w (at_next x z xs j a) (at_next y w ys j b)) in
    λ i. first i ∷ rest i

-- ---- names

pub has_at : (xs : List (List ℕ)) (n : List ℕ) → has_name n xs ≡ true → (j : ℕ) × At xs j n
has_at [] n h = absurd cc
has_at (x ∷ xs) n h = go (name_eq n x) refl h (has_at xs n)
  where
    go : (b : Bool) → name_eq n x ≡ b → (b || has_name n xs) ≡ true → (has_name n xs ≡ true → (j : ℕ) × At xs j n) → (j : ℕ) × At (x ∷ xs) j n
    go true e k ih = (0, subst (At (x ∷ xs) 0) (sym (name_same n x e)) (at_first x xs))
    go false e k ih = let r = ih k in (suc r.0, at_next x n xs r.0 r.1)

pub at_has : (xs : List (List ℕ)) (j : ℕ) (n : List ℕ) → At xs j n → has_name n xs ≡ true
at_has [] j n h = absurd (let l = h.within in omega arith)
at_has (x ∷ xs) zero n h = or_left (name_eq n x) (has_name n xs) (subst (λ z. name_eq n z ≡ true) h.is (name_refl n))
at_has (x ∷ xs) (suc j) n h = or_right (name_eq n x) (has_name n xs) (at_has xs j n (at_rest x n xs j h))

-- the first place of a name is its only one
first_place : (xs : List (List ℕ)) (j : ℕ) (n : List ℕ) → AreApart xs → At xs j n → position_or_len (name_eq n) xs ≡ j
first_place [] j n a h = absurd (let l = h.within in omega arith)
first_place (x ∷ xs) zero n a h = ap (λ b. cond (not b) (1 + position_or_len (name_eq n) xs) 0) (subst (λ z. name_eq n z ≡ true) h.is (name_refl n))
first_place (x ∷ xs) (suc j) n a h =
    let other : name_eq n x ≡ false = has_apart n x xs (at_has xs j n (at_rest x n xs j h)) a.0 in
    let rest : position_or_len (name_eq n) xs ≡ j = first_place xs j n a.1 (at_rest x n xs j h) in
    ap (λ b. cond (not b) (1 + position_or_len (name_eq n) xs) 0) other ∙ omega arith

pub place_at : (xs : List (List ℕ)) (j : ℕ) (n : List ℕ) → AreApart xs → At xs j n → position (name_eq n) xs ≡ Some j
place_at xs j n a h =
    let p = first_place xs j n a h in
    let l : j < length xs = h.within in
    let t : nat_lt j (length xs) ≡ true = lt-ltb j (length xs) l in
    (λ i. cond (nat_lt (p i) (length xs)) (Some (p i)) None) ∙ ap (λ b. cond b (Some j) None) t

pub at_place : (xs : List (List ℕ)) (j : ℕ) (n : List ℕ) → position (name_eq n) xs ≡ Some j → At xs j n
at_place xs j n h =
    let f = position-Some (name_eq n) xs j [] h in
    let is : n ≡ get_or xs j [] = name_same n (get_or xs j []) f.1 in
    record { within = f.0; is = is ∙ get_or_any xs j [] n f.0 }

-- one name stands at one place
pub one_place : (xs : List (List ℕ)) (i j : ℕ) (n : List ℕ) → AreApart xs → At xs i n → At xs j n → i ≡ j
one_place xs i j n a h g = sym (first_place xs i n a h) ∙ first_place xs j n a g

-- a name without a place isn't there
pub no_place : (xs : List (List ℕ)) (n : List ℕ) → AreApart xs → position (name_eq n) xs ≡ None → has_name n xs ≡ false
no_place xs n a h = go (has_name n xs) refl
  where
    go : (b : Bool) → has_name n xs ≡ b → b ≡ false
    go true e = absurd (let r = has_at xs n e in let p : Some r.0 ≡ None = sym (place_at xs r.0 n a r.1) ∙ h in cc)
    go false e = refl

-- ---- units

-- a unit that is found has a place
pub found_at : (us : List Procedure) (name : List ℕ) (u : Procedure) → find_unit us name ≡ Some u → (j : ℕ) × At us j u
found_at [] name u h = absurd cc
found_at (v ∷ us) name u h = go (name_eq v.name name) h (found_at us name u)
  where
    go : (b : Bool) → (if b then Some v else find_unit us name) ≡ Some u → (find_unit us name ≡ Some u → (j : ℕ) × At us j u) → (j : ℕ) × At (v ∷ us) j u
    go true h ih = let s : v ≡ u = cc in (0, subst (At (v ∷ us) 0) s (at_first v us))
    go false h ih = let r = ih h in (suc r.0, at_next v u us r.0 r.1)

-- and the unit at a place is found, where names are apart
pub find_at : (us : List Procedure) (j : ℕ) (u : Procedure) → AreApart (map unit_name us) → At us j u → find_unit us u.name ≡ Some u
find_at us j u a h = let f = each_at (Found us) us j u (all_found us a) h in f.0

-- the unit of a number
pub number_at : (us : List Procedure) (j : ℕ) (u : Procedure) → unit_at j us ≡ u ∷ [] → At us j u
number_at [] j u h = absurd cc
number_at (v ∷ us) zero u h = let s : v ≡ u = cc in subst (At (v ∷ us) 0) s (at_first v us)
number_at (v ∷ us) (suc j) u h = at_next v u us j (number_at us j u h)

pub at_number : (us : List Procedure) (j : ℕ) (u : Procedure) → At us j u → unit_at j us ≡ u ∷ []
at_number [] j u h = absurd (let l = h.within in omega arith)
at_number (v ∷ us) zero u h = ap (λ w. w ∷ []) (sym h.is)
at_number (v ∷ us) (suc j) u h = at_number us j u (at_rest v u us j h)
