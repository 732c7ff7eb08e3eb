-- Which cells a unit has: those of its variables below their sizes, each once.
use Rattle.std.proofs.Common.{◌≡◌, ◌<◌, ℕ, zero, suc, Bool, true, false, List, [], ◌∷◌, ◌++◌, refl, sym, ap, ◌∙◌, subst, arith}
use Rattle.std.specs.Prelude.{◌||◌, ◌&&◌, ◌==◌}
use Rattle.adj_tree.specs.Code.{Var, plain, name_eq}
use Rattle.adj_tree.proofs.Names.{nat_same, name_refl, name_same}
use Rattle.adj_word.specs.Pairing.{stands_in, IsApart}
use Rattle.def_meaning.specs.Store.{Shape, size_of}
use Rattle.def_meaning.specs.Apart.{has_name, AreApart}
use Rattle.law_sweep.specs.Pairs.{Key, key_eq}
use Rattle.def_names.proofs.Variables.{and_true, or_left, or_right}
use Rattle.law_sweep.specs.Cells.{cells_below, cells_of}
use Rattle.law_sweep.proofs.Carrying.{key_refl}

-- a key stands in one of two lists
in_either : (ks ls : List Key) (k : Key) → stands_in key_eq k (ks ++ ls) ≡ (stands_in key_eq k ks || stands_in key_eq k ls)
in_either [] ls k = refl
in_either (l ∷ ks) ls k = go (key_eq l k) (in_either ks ls k)
  where
    go : (b : Bool) → stands_in key_eq k (ks ++ ls) ≡ (stands_in key_eq k ks || stands_in key_eq k ls) → (b || stands_in key_eq k (ks ++ ls)) ≡ ((b || stands_in key_eq k ks) || stands_in key_eq k ls)
    go true e = refl
    go false e = e

below_has : (x : List ℕ) (j m : ℕ) → j < m → stands_in key_eq (x, j) (cells_below x m) ≡ true
below_has x j zero h = absurd (omega arith)
below_has x j (suc m) h = go (m == j) refl (below_has x j m)
  where
    go : (b : Bool) → (m == j) ≡ b → (j < m → stands_in key_eq (x, j) (cells_below x m) ≡ true) → ((name_eq x x && (m == j)) || stands_in key_eq (x, j) (cells_below x m)) ≡ true
    go true e ih = rw (name_refl x, e) refl
    go false e ih = let lt : j < m = grind arith in rw (name_refl x, e) (ih lt)

below_only : (x : List ℕ) (m : ℕ) (k : Key) → stands_in key_eq k (cells_below x m) ≡ true → (k.0 ≡ x) × (k.1 < m)
below_only x zero k h = cc
below_only x (suc m) k h = go (key_eq (x, m) k) refl h (below_only x m k)
  where
    go : (b : Bool) → key_eq (x, m) k ≡ b → (b || stands_in key_eq k (cells_below x m)) ≡ true → (stands_in key_eq k (cells_below x m) ≡ true → (k.0 ≡ x) × (k.1 < m)) → (k.0 ≡ x) × (k.1 < suc m)
    go true e h ih =
        let p = and_true (name_eq x k.0) (m == k.1) e in
        let n : m ≡ k.1 = nat_same m k.1 p.1 in
        (sym (name_same x k.0 p.0), omega arith)
    go false e h ih = let r = ih h in let lt = r.1 in (r.0, omega arith)

pub cells_has : (sh : Var → Shape) (xs : List (List ℕ)) (x : List ℕ) (j : ℕ) → has_name x xs ≡ true → j < size_of (sh (plain x)) → stands_in key_eq (x, j) (cells_of sh xs) ≡ true
cells_has sh [] x j h l = cc
cells_has sh (y ∷ xs) x j h l = in_either (cells_below y (size_of (sh (plain y)))) (cells_of sh xs) (x, j) ∙ go (name_eq x y) refl h (cells_has sh xs x j)
  where
    go : (b : Bool) → name_eq x y ≡ b → (b || has_name x xs) ≡ true → (has_name x xs ≡ true → j < size_of (sh (plain x)) → stands_in key_eq (x, j) (cells_of sh xs) ≡ true) → (stands_in key_eq (x, j) (cells_below y (size_of (sh (plain y)))) || stands_in key_eq (x, j) (cells_of sh xs)) ≡ true
    go true e h ih =
        or_left (stands_in key_eq (x, j) (cells_below y (size_of (sh (plain y))))) (stands_in key_eq (x, j) (cells_of sh xs))
        (subst (λ z. stands_in key_eq (x, j) (cells_below z (size_of (sh (plain z)))) ≡ true) (name_same x y e) (below_has x j (size_of (sh (plain x))) l))
    go false e h ih = or_right (stands_in key_eq (x, j) (cells_below y (size_of (sh (plain y))))) (stands_in key_eq (x, j) (cells_of sh xs)) (ih h l)

pub record CellOf (sh : Var → Shape) (xs : List (List ℕ)) (k : Key) : Type 0 where
  pub variable : has_name k.0 xs ≡ true
  pub below : k.1 < size_of (sh (plain k.0))

pub cells_only : (sh : Var → Shape) (xs : List (List ℕ)) (k : Key) → stands_in key_eq k (cells_of sh xs) ≡ true → CellOf sh xs k
cells_only sh [] k h = cc
cells_only sh (y ∷ xs) k h = go (stands_in key_eq k (cells_below y (size_of (sh (plain y))))) refl (sym (in_either (cells_below y (size_of (sh (plain y)))) (cells_of sh xs) k) ∙ h) (cells_only sh xs k)
  where
    go : (b : Bool) → stands_in key_eq k (cells_below y (size_of (sh (plain y)))) ≡ b → (b || stands_in key_eq k (cells_of sh xs)) ≡ true → (stands_in key_eq k (cells_of sh xs) ≡ true → CellOf sh xs k) → CellOf sh (y ∷ xs) k
    go true e h ih =
        let r = below_only y (size_of (sh (plain y))) k e in
        record { variable = or_left (name_eq k.0 y) (has_name k.0 xs) (ap (λ z. name_eq z y) r.0 ∙ name_refl y); below = subst (λ z. k.1 < size_of (sh (plain z))) (sym r.0) r.1 }
    go false e h ih = let r = ih h in record { variable = or_right (name_eq k.0 y) (has_name k.0 xs) r.variable; below = r.below }

below_apart : (x : List ℕ) (m : ℕ) → IsApart key_eq (cells_below x m)
below_apart x zero = tt
below_apart x (suc m) = (new (stands_in key_eq (x, m) (cells_below x m)) refl, below_apart x m)
  where
    new : (b : Bool) → stands_in key_eq (x, m) (cells_below x m) ≡ b → b ≡ false
    new true h = absurd (let r = below_only x m (x, m) h in let l = r.1 in omega arith)
    new false h = refl

append_apart : (ks ls : List Key) → IsApart key_eq ks → IsApart key_eq ls → ((k : Key) → stands_in key_eq k ks ≡ true → stands_in key_eq k ls ≡ false) → IsApart key_eq (ks ++ ls)
append_apart [] ls a b h = b
append_apart (k ∷ ks) ls a b h =
    (in_either ks ls k ∙ rw (a.0, h k (rw (key_refl k) refl)) refl, append_apart ks ls a.1 b (λ l o. h l (or_right (key_eq k l) (stands_in key_eq l ks) o)))

pub cells_apart : (sh : Var → Shape) (xs : List (List ℕ)) → AreApart xs → IsApart key_eq (cells_of sh xs)
cells_apart sh [] a = tt
cells_apart sh (x ∷ xs) a =
    append_apart (cells_below x (size_of (sh (plain x)))) (cells_of sh xs) (below_apart x (size_of (sh (plain x)))) (cells_apart sh xs a.1) (λ k o. go k o (stands_in key_eq k (cells_of sh xs)) refl)
  where
    go : (k : Key) → stands_in key_eq k (cells_below x (size_of (sh (plain x)))) ≡ true → (b : Bool) → stands_in key_eq k (cells_of sh xs) ≡ b → b ≡ false
    go k o true h =
        let r = below_only x (size_of (sh (plain x))) k o in
        let s = cells_only sh xs k h in
        absurd (let c : true ≡ false = sym s.variable ∙ ap (λ z. has_name z xs) r.0 ∙ a.0 in cc)
    go k o false h = refl
