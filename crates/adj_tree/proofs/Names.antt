-- When two names are the same.
use Rattle.std.proofs.Common.{◌≡◌, ℕ, Bool, true, false, List, [], ◌∷◌, refl, ap, arith}
use Rattle.std.specs.Prelude.{◌==◌, ◌&&◌}
use Rattle.std.specs.Str.{bytes_eq}
use Rattle.adj_tree.specs.Code.{name_eq}

-- numbers that compare equal are equal
pub nat_same : (a b : ℕ) → (a == b) ≡ true → a ≡ b
nat_same a b h = grind arith

pub nat_refl : (a : ℕ) → (a == a) ≡ true
nat_refl a = grind arith

pub name_refl : (x : List ℕ) → name_eq x x ≡ true
name_refl [] = refl
name_refl (a ∷ x) = rw nat_refl (name_refl x)

-- names that compare equal are equal
pub name_same : (x y : List ℕ) → name_eq x y ≡ true → x ≡ y
name_same [] [] h = refl
name_same [] (b ∷ y) h = cc
name_same (a ∷ x) [] h = cc
name_same (a ∷ x) (b ∷ y) h = go (name_same x y) (a == b) refl h
  where
    go : (name_eq x y ≡ true → x ≡ y) → (t : Bool) → (a == b) ≡ t → (t && name_eq x y) ≡ true → a ∷ x ≡ b ∷ y
    go ih true e h = let p = nat_same a b e in let q = ih h in cc
    go ih false e h = cc

-- the comparison of names is that of two slices of bytes
pub name_eq-bytes : (x y : List ℕ) → name_eq x y ≡ bytes_eq x y
name_eq-bytes [] [] = refl
name_eq-bytes [] (b ∷ y) = refl
name_eq-bytes (a ∷ x) [] = refl
name_eq-bytes (a ∷ x) (b ∷ y) = ap (λ r. (a == b) && r) (name_eq-bytes x y)
