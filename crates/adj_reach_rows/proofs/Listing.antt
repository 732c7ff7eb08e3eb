-- Members of lists that are gone through.
use Rattle.std.proofs.Common.{◌≡◌, ℕ, zero, suc, ◌+◌, ◌-◌, ◌<◌, ◌≤◌, ◌⊎◌, inl, inr, Bool, true, false, List, [], ◌∷◌, length, get_or, take, refl, sym, ap, ◌∙◌, subst, arith, eqb-true, eq-eqb, true≢false}
use Rattle.std.specs.Prelude.{Contains, if◌then◌else◌, ◌==◌}
use Rattle.std.proofs.lemmas.Bool.{cases_lt}
use Rattle.std.proofs.lemmas.List.{take_more}
use Rattle.std.proofs.lemmas.List.Elements.{Contains-append_left, Contains-push, Contains-push_cases}
use Rattle.adj_reach_rows.specs.Chains.{last_of}

-- the members passed, one more
module _ {X : Type 0} (xs : List X) (i : ℕ) (d : X) (l : i < length xs) where
  pub passed_then : (x : X) → Contains (take i xs) x ⊎ (get_or xs i d ≡ x) → Contains (take (i + 1) xs) x
  passed_then x (inl c) = subst (λ z. Contains z x) (sym (take_more xs i d l)) (Contains-append_left (take i xs) (get_or xs i d ∷ []) x c)
  passed_then x (inr e) = subst (λ z. Contains (take (i + 1) xs) z) e (subst (λ z. Contains z (get_or xs i d)) (sym (take_more xs i d l)) (Contains-push (take i xs) (get_or xs i d)))

  pub passed_or : (x : X) → Contains (take (i + 1) xs) x → Contains (take i xs) x ⊎ (get_or xs i d ≡ x)
  passed_or x c = Contains-push_cases (take i xs) (get_or xs i d) x (subst (λ z. Contains z x) (take_more xs i d l) c)

-- ---- chains

pub last_le : (x : ℕ) (xs : List ℕ) (n : ℕ) → last_of x xs n ≤ n
last_le x xs zero = omega arith
last_le x xs (suc n) = go (get_or xs n 0 == x) (last_le x xs n)
  where
    go : (b : Bool) → last_of x xs n ≤ n → (if b then suc n else last_of x xs n) ≤ suc n
    go true h = omega arith
    go false h = omega (arith, h)

-- at the last place there it stands
pub last_at : (x : ℕ) (xs : List ℕ) (n : ℕ) → 0 < last_of x xs n → get_or xs (last_of x xs n - 1) 0 ≡ x
last_at x xs zero h = absurd (omega (arith, h))
last_at x xs (suc n) h = go (get_or xs n 0 == x) refl h (last_at x xs n)
  where
    go : (b : Bool) → (get_or xs n 0 == x) ≡ b → 0 < (if b then suc n else last_of x xs n) → (0 < last_of x xs n → get_or xs (last_of x xs n - 1) 0 ≡ x) → get_or xs ((if b then suc n else last_of x xs n) - 1) 0 ≡ x
    go true e k r = let q : suc n - 1 ≡ n = omega arith in ap (λ z. get_or xs z 0) q ∙ eqb-true (get_or xs n 0) x e
    go false e k r = r k

-- and behind it there isn't one
pub last_none : (x : ℕ) (xs : List ℕ) (n i : ℕ) → last_of x xs n ≤ i → i < n → get_or xs i 0 ≡ x → ⊥
last_none x xs zero i h l e = omega (arith, l)
last_none x xs (suc n) i h l e = go (get_or xs n 0 == x) refl h (last_none x xs n i)
  where
    go : (b : Bool) → (get_or xs n 0 == x) ≡ b → (if b then suc n else last_of x xs n) ≤ i → (last_of x xs n ≤ i → i < n → get_or xs i 0 ≡ x → ⊥) → ⊥
    go true q k r = omega (arith, k, l)
    go false q k r = by (cases_lt i n)
      where
        by : (i < n) ⊎ (n ≤ i) → ⊥
        by (inl m) = r k m e
        by (inr m) = let p : i ≡ n = omega (arith, m, l) in true≢false (sym (eq-eqb (get_or xs n 0) x (ap (λ z. get_or xs z 0) (sym p) ∙ e)) ∙ q)

-- one more place
pub last_more_same : (x : ℕ) (xs : List ℕ) (n : ℕ) → get_or xs n 0 ≡ x → last_of x xs (n + 1) ≡ n + 1
last_more_same x xs n e =
    let p : n + 1 ≡ suc n = omega arith in
    ap (last_of x xs) p ∙ ap (λ b. if b then suc n else last_of x xs n) (eq-eqb (get_or xs n 0) x e) ∙ sym p

pub last_more_other : (x : ℕ) (xs : List ℕ) (n : ℕ) → (get_or xs n 0 ≡ x → ⊥) → last_of x xs (n + 1) ≡ last_of x xs n
last_more_other x xs n f = go (get_or xs n 0 == x) refl
  where
    p : n + 1 ≡ suc n
    p = omega arith

    go : (b : Bool) → (get_or xs n 0 == x) ≡ b → last_of x xs (n + 1) ≡ last_of x xs n
    go true e = absurd (f (eqb-true (get_or xs n 0) x e))
    go false e = ap (last_of x xs) p ∙ ap (λ b. if b then suc n else last_of x xs n) e
