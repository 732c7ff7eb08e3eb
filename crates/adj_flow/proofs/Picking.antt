-- Every so many flags, one after the other.
use Rattle.std.proofs.Common.{◌≡◌, ◌⊎◌, inl, inr, ℕ, ◌+◌, ◌*◌, ◌<◌, ◌≤◌, List, [], ◌∷◌, ◌++◌, Bool, false, length, sym, ap, ◌∙◌, arith, length-append}
use Rattle.std.proofs.lemmas.Bool.{cases_lt}
use Rattle.std.proofs.Math.Nat.{add-mul, mul-le-mul_right}
use Rattle.std.proofs.lemmas.List.{get_or_append_left, get_or_past, get_or_at}
use Rattle.adj_reach.specs.Edges.{flag}

-- below one more there is one more
below_one : (n m : ℕ) → n < m + 1 → (n < m) ⊎ (n ≡ m)
below_one n m h = go (cases_lt n m)
  where
    go : (n < m) ⊎ (m ≤ n) → (n < m) ⊎ (n ≡ m)
    go (inl k) = inl k
    go (inr k) = inr (omega arith)

-- one flag more
pub picked_more : (flags made : List Bool) (s p next : ℕ) (x : Bool) → next ≡ length made * s + p → x ≡ flag flags next → ((n : ℕ) → n < length made → flag made n ≡ flag flags (n * s + p)) →
    (n : ℕ) → n < length (made ++ x ∷ []) → flag (made ++ x ∷ []) n ≡ flag flags (n * s + p)
picked_more flags made s p next x e f h n l = go (below_one n (length made) (omega (arith, length-append made (x ∷ []))))
  where
    go : (n < length made) ⊎ (n ≡ length made) → flag (made ++ x ∷ []) n ≡ flag flags (n * s + p)
    go (inl k) = get_or_append_left made (x ∷ []) false n k ∙ h n k
    go (inr k) = get_or_at made x [] false n (sym k) ∙ f ∙ ap (flag flags) (e ∙ ap (λ m. m * s + p) (sym k))

-- the next place
pub next_place : (made : List Bool) (s p next : ℕ) (x : Bool) → next ≡ length made * s + p → next + s ≡ length (made ++ x ∷ []) * s + p
next_place made s p next x e =
    let l : length (made ++ x ∷ []) ≡ length made + 1 = length-append made (x ∷ []) in
    let d : (length made + 1) * s ≡ length made * s + 1 * s = add-mul (length made) 1 s in
    let a : next + s ≡ (length made + 1) * s + p = omega (arith, d) in
    a ∙ ap (λ m. m * s + p) (sym l)

-- all flags: past the last one there is none
pub picked_all : (flags made : List Bool) (s p next : ℕ) → next ≡ length made * s + p → length flags ≤ next → ((n : ℕ) → n < length made → flag made n ≡ flag flags (n * s + p)) → (n : ℕ) → flag made n ≡ flag flags (n * s + p)
picked_all flags made s p next e past h n = go (cases_lt n (length made))
  where
    go : (n < length made) ⊎ (length made ≤ n) → flag made n ≡ flag flags (n * s + p)
    go (inl k) = h n k
    go (inr k) =
        let m : length made * s ≤ n * s = mul-le-mul_right s k in
        get_or_past made n false k ∙ sym (get_or_past flags (n * s + p) false (omega arith))
