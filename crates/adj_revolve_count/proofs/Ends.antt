-- Members of lists, counted from the end.
use Rattle.std.proofs.Common.{◌≡◌, ℕ, zero, suc, ◌+◌, ◌-◌, ◌≤◌, ◌<◌, List, [], ◌∷◌, ◌++◌, length, refl, ◌∙◌, ap, arith}
use Rattle.std.specs.Prelude.{slice_get, Some, None}
use Rattle.std.proofs.lemmas.List.{length-append}
use Rattle.adj_revolve_count.specs.Rows.{from_end}

-- a member of the second of two lists
at_append : {A : Type 0} (xs ys : List A) (i : ℕ) → slice_get (xs ++ ys) (length xs + i) ≡ slice_get ys i
at_append [] ys i = let e : 0 + i ≡ i = omega arith in ap (λ z. slice_get ys z) e
at_append (x ∷ xs) ys i =
    let e : suc (length xs) + i ≡ suc (length xs + i) = omega arith in
    ap (λ z. slice_get (x ∷ (xs ++ ys)) z) e ∙ at_append xs ys i

-- and of the first
at_front : {A : Type 0} (xs ys : List A) (i : ℕ) → i < length xs → slice_get (xs ++ ys) i ≡ slice_get xs i
at_front [] ys i h = absurd (omega arith)
at_front (x ∷ xs) ys zero h = refl
at_front (x ∷ xs) ys (suc i) h = at_front xs ys i (omega arith)

-- no member stands past the end
pub at_past : {A : Type 0} (xs : List A) (i : ℕ) → length xs ≤ i → slice_get xs i ≡ None
at_past [] i h = refl
at_past (x ∷ xs) zero h = absurd (omega arith)
at_past (x ∷ xs) (suc i) h = at_past xs i (omega arith)

-- the last members of two lists are those of the second
pub end_back : {A : Type 0} (xs ys : List A) (left : ℕ) → left ≤ length ys → from_end (xs ++ ys) left ≡ from_end ys left
end_back xs ys left h =
    let e : length (xs ++ ys) - left ≡ length xs + (length ys - left) = omega (arith, length-append xs ys) in
    ap (λ z. slice_get (xs ++ ys) z) e ∙ at_append xs ys (length ys - left)

-- and before them stand those of the first
pub end_front : {A : Type 0} (xs ys : List A) (left : ℕ) → length ys < left → left ≤ length xs + length ys → from_end (xs ++ ys) left ≡ from_end xs (left - length ys)
end_front xs ys left h g =
    let e : length (xs ++ ys) - left ≡ length xs - (left - length ys) = omega (arith, length-append xs ys) in
    ap (λ z. slice_get (xs ++ ys) z) e ∙ at_front xs ys (length xs - (left - length ys)) (omega arith)

-- the first member stands farthest from the end
pub end_first : {A : Type 0} (x : A) (xs : List A) (left : ℕ) → left ≡ suc (length xs) → from_end (x ∷ xs) left ≡ Some x
end_first x xs left h = let e : suc (length xs) - left ≡ 0 = omega arith in ap (λ z. slice_get (x ∷ xs) z) e

-- the others are those without it
pub end_rest : {A : Type 0} (x : A) (xs : List A) (left : ℕ) → left ≤ length xs → from_end (x ∷ xs) left ≡ from_end xs left
end_rest x xs left h =
    let e : suc (length xs) - left ≡ suc (length xs - left) = omega arith in
    ap (λ z. slice_get (x ∷ xs) z) e
