-- What holds of each member of a list.
use Rattle.std.proofs.Common.{◌≡◌, ℕ, ◌+◌, ◌<◌, ◌⊎◌, inl, inr, nat_lt, Bool, true, false, List, length, get_or, refl, sym, ap, ◌∙◌, subst, Some, arith}
use Rattle.std.proofs.lemmas.Bool.Decides.{nat_tests}
use Rattle.std.proofs.lemmas.Option.{slice_get-get_or}

-- of each before a place
abbrev pub AllBefore : {X : Type 0} → (X → Type 0) → List X → ℕ → Type 0
AllBefore {X} P xs i = (k : ℕ) (d : X) → k < i → P (get_or xs k d)

-- and of one more
pub all_more : {X : Type 0} (P : X → Type 0) (xs : List X) (i : ℕ) (x : X) → i < length xs → x ≡ get_or xs i x → AllBefore P xs i → P x → AllBefore P xs (i + 1)
all_more {X} P xs i x lt is before here k d le = go (cases k i le)
  where
    cases : (k i : ℕ) → k < i + 1 → (k < i) ⊎ (k ≡ i)
    cases k i le = pick (nat_lt k i) refl
      where
        pick : (b : Bool) → nat_lt k i ≡ b → (k < i) ⊎ (k ≡ i)
        pick true e = inl (below k i e)
          where
            below : (k i : ℕ) → nat_lt k i ≡ true → k < i
            below k i e = grind (arith, nat_tests)
        pick false e = inr (level k i e le)
          where
            level : (k i : ℕ) → nat_lt k i ≡ false → k < i + 1 → k ≡ i
            level k i e le = grind (arith, nat_tests)

    unwrapped : (a b : X) → Some a ≡ Some b → a ≡ b
    unwrapped a b h = cc

    go : (k < i) ⊎ (k ≡ i) → P (get_or xs k d)
    go (inl l) = before k d l
    go (inr e) = subst P (is ∙ unwrapped (get_or xs i x) (get_or xs i d) (sym (slice_get-get_or xs i x lt) ∙ slice_get-get_or xs i d lt) ∙ ap (λ n. get_or xs n d) (sym e)) here
