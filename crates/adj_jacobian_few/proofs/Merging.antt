-- Two increasing lists as one: by their least numbers, and what the one has.
use Rattle.std.proofs.Common.{◌≡◌, ℕ, suc, ◌<◌, ◌≤◌, min, Bool, true, false, List, [], ◌∷◌, cond, refl, sym, ap, subst, ◌∙◌, eqb-true, eq-eqb, arith}
use Rattle.std.specs.Prelude.{nat_lt, ◌==◌, ◌||◌, Some, None}
use Rattle.std.proofs.lemmas.Bool.{ltb-true, ltb-false, ne_eqb, eqb-false}
use Rattle.def_jacobian.specs.Groups.{has}
use Rattle.adj_jacobian_few.specs.Merged.{placed, merged, least, behind, IncreasesFrom}

-- ---- number by number

behind_same : (z : ℕ) (zs : List ℕ) → behind z (z ∷ zs) ≡ zs
behind_same z zs = ap (λ t. cond t zs (z ∷ zs)) (eq-eqb z z refl)

behind_other : (z x : ℕ) (xs : List ℕ) → (x == z) ≡ false → behind z (x ∷ xs) ≡ x ∷ xs
behind_other z x xs e = ap (λ t. cond t xs (x ∷ xs)) e

some_same : {X : Type 0} (a b : X) → Some a ≡ Some b → a ≡ b
some_same a b e = cc

-- the first number of both, and what is left
heads : (x y : ℕ) (xs ys : List ℕ) → merged (x ∷ xs) (y ∷ ys) ≡ min x y ∷ merged (behind (min x y) (x ∷ xs)) (behind (min x y) (y ∷ ys))
heads x y xs ys = by (nat_lt y x) refl (y == x) refl
  where
    Goal : ℕ → Type 0
    Goal z = merged (x ∷ xs) (y ∷ ys) ≡ z ∷ merged (behind z (x ∷ xs)) (behind z (y ∷ ys))

    by : (s : Bool) → nat_lt y x ≡ s → (t : Bool) → (y == x) ≡ t → Goal (min x y)
    by true e t f =
        let lt : y < x = ltb-true y x e in
        let other : (x == y) ≡ false = ne_eqb x y (λ q. let n : ⊥ = omega (arith, lt, q) in n) in
        let is : y ≡ min x y = omega (arith, lt) in
        let whole : merged (x ∷ xs) (y ∷ ys) ≡ y ∷ merged (x ∷ xs) ys = ap (λ c. cond c (y ∷ merged (x ∷ xs) ys) (cond (y == x) (x ∷ merged xs ys) (x ∷ merged xs (y ∷ ys)))) e in
        subst Goal is (whole ∙ sym (λ i. y ∷ merged (behind_other y x xs other i) (behind_same y ys i)))
    by false e true f =
        let same : y ≡ x = eqb-true y x f in
        let is : x ≡ min x y = omega (arith, same) in
        let whole : merged (x ∷ xs) (y ∷ ys) ≡ x ∷ merged xs ys = ap (λ c. cond c (y ∷ merged (x ∷ xs) ys) (cond (y == x) (x ∷ merged xs ys) (x ∷ merged xs (y ∷ ys)))) e ∙ ap (λ c. cond c (x ∷ merged xs ys) (x ∷ merged xs (y ∷ ys))) f in
        let rest : behind x (y ∷ ys) ≡ ys = ap (λ z. behind x (z ∷ ys)) same ∙ behind_same x ys in
        subst Goal is (whole ∙ sym (λ i. x ∷ merged (behind_same x xs i) (rest i)))
    by false e false f =
        let not_less : x ≤ y = ltb-false y x e in
        let is : x ≡ min x y = omega (arith, not_less) in
        let whole : merged (x ∷ xs) (y ∷ ys) ≡ x ∷ merged xs (y ∷ ys) = ap (λ c. cond c (y ∷ merged (x ∷ xs) ys) (cond (y == x) (x ∷ merged xs ys) (x ∷ merged xs (y ∷ ys)))) e ∙ ap (λ c. cond c (x ∷ merged xs ys) (x ∷ merged xs (y ∷ ys))) f in
        subst Goal is (whole ∙ sym (λ i. x ∷ merged (behind_same x xs i) (behind_other x y ys f i)))

-- the next number of both
pub next_merged : (xs ys : List ℕ) (z : ℕ) → least xs ys ≡ Some z → merged xs ys ≡ z ∷ merged (behind z xs) (behind z ys)
next_merged [] [] z e = cc
next_merged [] (y ∷ ys) z e = subst (λ w. y ∷ ys ≡ w ∷ behind w (y ∷ ys)) (some_same y z e) (ap (λ zs. y ∷ zs) (sym (behind_same y ys)))
next_merged (x ∷ xs) [] z e = subst (λ w. x ∷ merged xs [] ≡ w ∷ merged (behind w (x ∷ xs)) []) (some_same x z e) (ap (λ zs. x ∷ merged zs []) (sym (behind_same x xs)))
next_merged (x ∷ xs) (y ∷ ys) z e = subst (λ w. merged (x ∷ xs) (y ∷ ys) ≡ w ∷ merged (behind w (x ∷ xs)) (behind w (y ∷ ys))) (some_same (min x y) z e) (heads x y xs ys)

-- there is none
pub none_merged : (xs ys : List ℕ) → least xs ys ≡ None → merged xs ys ≡ []
none_merged [] [] e = refl
none_merged [] (y ∷ ys) e = cc
none_merged (x ∷ xs) [] e = cc
none_merged (x ∷ xs) (y ∷ ys) e = cc

-- ---- order

module _ (x : ℕ) (rest : List ℕ → List ℕ) where
  placed_increases : ((ys : List ℕ) → IncreasesFrom (suc x) ys → IncreasesFrom (suc x) (rest ys)) → (ys : List ℕ) (i : ℕ) → i ≤ x → IncreasesFrom i ys → IncreasesFrom i (placed x rest ys)
  placed_increases h [] i le k = (le, h [] tt)
  placed_increases h (y ∷ ys) i le k = by (λ less. placed_increases h ys (suc y) less k.1) (nat_lt y x) refl (y == x) refl
    where
      by : (suc y ≤ x → IncreasesFrom (suc y) (placed x rest ys)) → (s : Bool) → nat_lt y x ≡ s → (t : Bool) → (y == x) ≡ t → IncreasesFrom i (placed x rest (y ∷ ys))
      by more true e t f =
          subst (IncreasesFrom i) (sym (ap (λ c. cond c (y ∷ placed x rest ys) (cond (y == x) (x ∷ rest ys) (x ∷ rest (y ∷ ys)))) e))
          (k.0, more (ltb-true y x e))
      by more false e true f =
          subst (IncreasesFrom i) (sym (ap (λ c. cond c (y ∷ placed x rest ys) (cond (y == x) (x ∷ rest ys) (x ∷ rest (y ∷ ys)))) e ∙ ap (λ c. cond c (x ∷ rest ys) (x ∷ rest (y ∷ ys))) f))
          (le, h ys (subst (λ z. IncreasesFrom (suc z) ys) (eqb-true y x f) k.1))
      by more false e false f =
          let not_less : x ≤ y = ltb-false y x e in
          let other : (y ≡ x) → ⊥ = eqb-false y x f in
          let lt : suc x ≤ y = omega (arith, not_less, other) in
          subst (IncreasesFrom i) (sym (ap (λ c. cond c (y ∷ placed x rest ys) (cond (y == x) (x ∷ rest ys) (x ∷ rest (y ∷ ys)))) e ∙ ap (λ c. cond c (x ∷ rest ys) (x ∷ rest (y ∷ ys))) f))
          (le, h (y ∷ ys) (lt, k.1))

pub merged_increases : (xs ys : List ℕ) (i : ℕ) → IncreasesFrom i xs → IncreasesFrom i ys → IncreasesFrom i (merged xs ys)
merged_increases [] ys i h k = k
merged_increases (x ∷ xs) ys i h k = placed_increases x (merged xs) (λ zs m. merged_increases xs zs (suc x) h.1 m) ys i h.0 k

-- ---- members

or_second_first : (a b c : Bool) → (a || (b || c)) ≡ (b || (a || c))
or_second_first true true c = refl
or_second_first true false c = refl
or_second_first false true c = refl
or_second_first false false c = refl

or_none : (a b : Bool) → (a || (b || false)) ≡ ((a || b) || false)
or_none true b = refl
or_none false b = refl

or_once : (a b c : Bool) → (a || (b || c)) ≡ ((a || b) || (a || c))
or_once true b c = refl
or_once false true c = refl
or_once false false c = refl

or_joined : (a b c : Bool) → (a || (b || c)) ≡ ((a || b) || c)
or_joined true b c = refl
or_joined false b c = refl

module _ (x : ℕ) (rest : List ℕ → List ℕ) (g : ℕ → Bool) where
  placed_has : ((ys : List ℕ) (c : ℕ) → has (rest ys) c ≡ (g c || has ys c)) → (ys : List ℕ) (c : ℕ) → has (placed x rest ys) c ≡ (((c == x) || g c) || has ys c)
  placed_has h [] c = ap (λ b. (c == x) || b) (h [] c) ∙ or_none (c == x) (g c)
  placed_has h (y ∷ ys) c = by (placed_has h ys c) (nat_lt y x) refl (y == x) refl
    where
      by : has (placed x rest ys) c ≡ (((c == x) || g c) || has ys c) → (s : Bool) → nat_lt y x ≡ s → (t : Bool) → (y == x) ≡ t → has (placed x rest (y ∷ ys)) c ≡ (((c == x) || g c) || has (y ∷ ys) c)
      by more true e t f =
          ap (λ b. has (cond b (y ∷ placed x rest ys) (cond (y == x) (x ∷ rest ys) (x ∷ rest (y ∷ ys)))) c) e
          ∙ ap (λ b. (c == y) || b) more
          ∙ or_second_first (c == y) ((c == x) || g c) (has ys c)
      by more false e true f =
          ap (λ b. has (cond b (y ∷ placed x rest ys) (cond (y == x) (x ∷ rest ys) (x ∷ rest (y ∷ ys)))) c) e
          ∙ ap (λ b. has (cond b (x ∷ rest ys) (x ∷ rest (y ∷ ys))) c) f
          ∙ ap (λ b. (c == x) || b) (h ys c)
          ∙ or_once (c == x) (g c) (has ys c)
          ∙ ap (λ z. ((c == x) || g c) || ((c == z) || has ys c)) (sym (eqb-true y x f))
      by more false e false f =
          ap (λ b. has (cond b (y ∷ placed x rest ys) (cond (y == x) (x ∷ rest ys) (x ∷ rest (y ∷ ys)))) c) e
          ∙ ap (λ b. has (cond b (x ∷ rest ys) (x ∷ rest (y ∷ ys))) c) f
          ∙ ap (λ b. (c == x) || b) (h (y ∷ ys) c)
          ∙ or_joined (c == x) (g c) (has (y ∷ ys) c)

pub merged_has : (xs ys : List ℕ) (c : ℕ) → has (merged xs ys) c ≡ (has xs c || has ys c)
merged_has [] ys c = refl
merged_has (x ∷ xs) ys c = placed_has x (merged xs) (has xs) (merged_has xs) ys c
