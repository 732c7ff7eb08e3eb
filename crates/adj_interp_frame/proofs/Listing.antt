-- Units are found by their numbers.
use Rattle.std.proofs.Common.{◌≡◌, ℕ, zero, suc, ◌+◌, ◌<◌, ◌≤◌, Bool, true, false, List, [], ◌∷◌, map, length, get_or, refl, sym, ap, ◌∙◌, arith, if◌then◌else◌}
use Rattle.std.specs.Prelude.{slice_get, nat_lt, Some}
use Rattle.adj_tree.specs.Code.{name_eq, Procedure}
use Rattle.adj_tree.proofs.Names.{name_refl, name_same}
use Rattle.def_meaning.specs.Apart.{AreApart}
use Rattle.def_meaning.specs.Written.{find_unit}
use Rattle.adj_tree.specs.View.{procedure_of}
use Rattle.adj_tree.specs.declared.unit.Unit.{Unit}
use Rattle.adj_interp_frame.specs.Numbered.{Extends}
use Rattle.adj_interp_frame.specs.Listed.{names_of}
use Rattle.adj_interp_frame.proofs.Reading.{other_name}
use Rattle.std.proofs.lemmas.List.{length-map}

-- names at two places of a list of names that are apart differ
pub apart_at : (ns : List (List ℕ)) (i j : ℕ) → AreApart ns → i < length ns → j < length ns → name_eq (get_or ns i []) (get_or ns j []) ≡ true → i ≡ j
apart_at [] i j a l m h = absurd (omega arith)
apart_at (n ∷ ns) zero zero a l m h = refl
apart_at (n ∷ ns) zero (suc j) a l m h =
    let o = other_name n ns j a.0 (omega arith) in
    let s = name_same n (get_or ns j []) h in
    absurd (let bad : true ≡ false = sym (name_refl n) ∙ ap (λ z. name_eq z n) s ∙ o in cc)
apart_at (n ∷ ns) (suc i) zero a l m h = absurd (let bad : true ≡ false = sym h ∙ other_name n ns i a.0 (omega arith) in cc)
apart_at (n ∷ ns) (suc i) (suc j) a l m h = ap suc (apart_at ns i j a.1 (omega arith) (omega arith) h)

-- the unit of a name is the one at a place where alone the name stands
pub found_at : (us : List Procedure) (i : ℕ) (x : List ℕ) → ((j : ℕ) (d : Procedure) → j < length us → name_eq (get_or us j d).name x ≡ true → j ≡ i) → ((d : Procedure) → i < length us → name_eq (get_or us i d).name x ≡ true) → find_unit us x ≡ slice_get us i
found_at [] i x f g = refl
found_at (u ∷ us) zero x f g = ap (λ b. if b then Some u else find_unit us x) (g u (omega arith))
found_at (u ∷ us) (suc i) x f g = go (found_at us i x (λ j d l q. let z = f (suc j) d (omega (arith, l)) q in omega (arith, z)) (λ d l. g d (omega (arith, l)))) (name_eq u.name x) refl
  where
    go : find_unit us x ≡ slice_get us i → (b : Bool) → name_eq u.name x ≡ b → (if b then Some u else find_unit us x) ≡ slice_get us i
    go rest true h = let z = f 0 u (omega arith) h in absurd (omega (arith, z))
    go rest false h = rest

-- names of units, by place
name_at : (us : List Unit) (j : ℕ) (d : Procedure) → j < length us → (get_or (map procedure_of us) j d).name ≡ get_or (names_of us) j []
name_at [] j d l = absurd (omega arith)
name_at (u ∷ us) zero d l = refl
name_at (u ∷ us) (suc j) d l = name_at us j d (omega arith)

-- a name of a directory at a number leads to the unit of that number, or to none
pub directory_found : (us : List Unit) (names : List (List ℕ)) (i : ℕ) (x : List ℕ) → AreApart names → length us ≤ length names → ((j : ℕ) → j < length us → get_or names j [] ≡ get_or (names_of us) j []) → i < length names → get_or names i [] ≡ x → find_unit (map procedure_of us) x ≡ slice_get (map procedure_of us) i
directory_found us names i x a longer first lt named =
    let n = length-map us procedure_of in
    found_at (map procedure_of us) i x
    (λ j d l h. apart_at names j i a (omega (arith, n, l, longer)) lt (ap (λ z. name_eq z (get_or names i [])) (first j (omega (arith, n, l)) ∙ sym (name_at us j d (omega (arith, n, l)))) ∙ ap (name_eq (get_or (map procedure_of us) j d).name) named ∙ h))
    (λ d l. ap (λ z. name_eq z x) (name_at us i d (omega (arith, n, l)) ∙ sym (first i (omega (arith, n, l))) ∙ named) ∙ name_refl x)

-- ---- a directory is made

exactly : (i k n : ℕ) → (i < k → ⊥) → i < n → n ≤ k + 1 → i ≡ k
exactly i k n never l m = go (nat_lt i k) refl
  where
    go : (b : Bool) → nat_lt i k ≡ b → i ≡ k
    go true h = absurd (never (grind arith))
    go false h = let ge : k ≤ i = grind arith in omega (arith, ge, l, m)

-- the next unit gets the next number, where names are apart
module _ (all ns more : List (List ℕ)) (k i : ℕ) (x : List ℕ) (a : AreApart all) (lt : k < length all) (at : get_or all k [] ≡ x) (count : length ns ≡ k) (first : (j : ℕ) → j < k → get_or ns j [] ≡ get_or all j []) (e : Extends ns more) (within : i < length more) (named : get_or more i [] ≡ x) (few : length more ≤ length ns + 1) where
  not_before : i < k → ⊥
  not_before l =
      let same : get_or all i [] ≡ get_or all k [] = sym (first i l) ∙ sym (e.keeps i (omega (arith, l, count))) ∙ named ∙ sym at in
      let s = apart_at all i k a (omega (arith, l, lt)) lt (ap (λ z. name_eq z (get_or all k [])) same ∙ name_refl (get_or all k [])) in
      omega (arith, s, l)

  is_next : i ≡ k
  is_next = exactly i k (length more) not_before within (omega (arith, few, count))

  pub next_count : length more ≡ k + 1
  next_count = let n = is_next in omega (arith, n, within, few, count)

  pub next_first : (j : ℕ) → j < k + 1 → get_or more j [] ≡ get_or all j []
  next_first j l = go (nat_lt j k) refl
    where
      go : (b : Bool) → nat_lt j k ≡ b → get_or more j [] ≡ get_or all j []
      go true h = let m : j < k = grind arith in e.keeps j (omega (arith, m, count)) ∙ first j m
      go false h =
          let ge : k ≤ j = grind arith in
          let s : j ≡ k = omega (arith, ge, l) in
          ap (λ z. get_or more z []) (s ∙ sym is_next) ∙ named ∙ sym at ∙ ap (λ z. get_or all z []) (sym s)
