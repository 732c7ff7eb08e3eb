-- What is recovered is the dense derivative.
use Rattle.std.proofs.Common.{◌≡◌, ◌≢◌, ℕ, zero, suc, ◌+◌, ◌<◌, ◌≤◌, ◌⊎◌, inl, inr, Bool, true, false, List, [], ◌∷◌, ◌++◌, length, refl, sym, ap, ap₂, ◌∙◌, cond, filter, eqb-true, true≢false, arith}
use Rattle.std.proofs.lemmas.Bool.{or_cases}
use Rattle.std.specs.Prelude.{ℤ, ◌==◌, ◌&&◌}
use Rattle.def_meaning.specs.Units.{Output}
use Rattle.def_meaning.proofs.Booleans.{or_first, or_second}
use Rattle.def_jacobian.specs.Columns.{Columns}
use Rattle.def_jacobian.specs.Patterns.{dual_run, Place, columns_at, tangent_of, dense}
use Rattle.def_jacobian.specs.Groups.{has, share, in_group, group_of, seed}
use Rattle.def_jacobian.specs.Recovered.{from, Row, listed, rows_at, columns_in, entries_of_row, entries, found}
use Rattle.def_jacobian.specs.Laws.{RecoversDense}
use Rattle.law_jacobian.proofs.Grouping.{eqb_itself, eqb_same, in_own, shares_none}
use Rattle.law_jacobian.proofs.Runs.{group_tells}

-- ---- the columns of a set as a list

-- the list where the first number is looked at
module _ (s : Columns) (i : ℕ) (rest : List ℕ) (c : ℕ) where
  -- what is in the list is its first number, which is in the set, or one of the others
  split_listed : has (cond (s i) (i ∷ rest) rest) c ≡ true → ((c ≡ i) × (s i ≡ true)) ⊎ (has rest c ≡ true)
  split_listed h = by (s i) refl
    where
      by : (z : Bool) → s i ≡ z → ((c ≡ i) × (s i ≡ true)) ⊎ (has rest c ≡ true)
      by true e = at (or_cases (c == i) (has rest c) (ap (λ z. has (cond z (i ∷ rest) rest) c) (sym e) ∙ h))
        where
          at : ((c == i) ≡ true) ⊎ (has rest c ≡ true) → ((c ≡ i) × (s i ≡ true)) ⊎ (has rest c ≡ true)
          at (inl k) = inl (eqb-true c i k, e)
          at (inr k) = inr k
      by false e = inr (ap (λ z. has (cond z (i ∷ rest) rest) c) (sym e) ∙ h)

  -- and each of these is in the list
  join_first : c ≡ i → s i ≡ true → has (cond (s i) (i ∷ rest) rest) c ≡ true
  join_first k e = ap (λ z. has (cond z (i ∷ rest) rest) c) e ∙ or_first (c == i) (has rest c) (eqb_same c i k)

  join_rest : has rest c ≡ true → has (cond (s i) (i ∷ rest) rest) c ≡ true
  join_rest h = by (s i) refl
    where
      by : (z : Bool) → s i ≡ z → has (cond (s i) (i ∷ rest) rest) c ≡ true
      by true e = ap (λ z. has (cond z (i ∷ rest) rest) c) e ∙ or_second (c == i) (has rest c) h
      by false e = ap (λ z. has (cond z (i ∷ rest) rest) c) e ∙ h

-- those in the list are in the set and within the range
pub listed_in : (s : Columns) (i n c : ℕ) → has (filter s (from i n)) c ≡ true → (s c ≡ true) × (c < i + n)
listed_in s i zero c h = cc
listed_in s i (suc n) c h = by (split_listed s i (filter s (from (suc i) n)) c h) (listed_in s (suc i) n c)
  where
    by : ((c ≡ i) × (s i ≡ true)) ⊎ (has (filter s (from (suc i) n)) c ≡ true) → (has (filter s (from (suc i) n)) c ≡ true → (s c ≡ true) × (c < suc i + n)) → (s c ≡ true) × (c < i + suc n)
    by (inl k) f = (ap s k.0 ∙ k.1, let q = k.0 in omega (arith, q))
    by (inr k) f = let q = f k in (q.0, let l = q.1 in omega (arith, l))

-- a column of the set within the range is in the list
in_listed : (s : Columns) (i n c : ℕ) → s c ≡ true → i ≤ c → c < i + n → has (filter s (from i n)) c ≡ true
in_listed s i zero c h le lt = absurd (omega (arith, le, lt))
in_listed s i (suc n) c h le lt = by (c == i) refl (λ past. in_listed s (suc i) n c h past (omega (arith, lt)))
  where
    by : (y : Bool) → (c == i) ≡ y → (suc i ≤ c → has (filter s (from (suc i) n)) c ≡ true) → has (cond (s i) (i ∷ filter s (from (suc i) n)) (filter s (from (suc i) n))) c ≡ true
    by true e f = let q = eqb-true c i e in join_first s i (filter s (from (suc i) n)) c q (ap s (sym q) ∙ h)
    by false e f = join_rest s i (filter s (from (suc i) n)) c (f (let q : c ≢ i = λ k. true≢false (sym (eqb_same c i k) ∙ e) in omega (arith, le, q)))

-- ---- rows

-- a column in a group is in the list of groups
within_groups : (groups : List ℕ) (g c : ℕ) → in_group groups g c ≡ true → c < length groups
within_groups [] g c h = cc
within_groups (k ∷ ks) g zero h = omega arith
within_groups (k ∷ ks) g (suc c) h = let q = within_groups ks g c h in omega (arith, q)

-- a row is one of some rows
pub Among : Row → List Row → Type 0
Among r [] = ⊥
Among r (q ∷ rs) = (q ≡ r) ⊎ Among r rs

both : (a b : Bool) → a ≡ true → b ≡ true → (a && b) ≡ true
both a b e f = ap₂ (λ y z. y && z) e f

-- columns that a row of the list has share a row
shared : (r : Row) (rows : List Row) → Among r rows → (c d : ℕ) → has r.columns c ≡ true → has r.columns d ≡ true → share (columns_in rows) c d ≡ true
unfolding Among
shared r [] m c d h k = absurd m
shared r (q ∷ rs) (inl e) c d h k = or_first (has q.columns c && has q.columns d) (share (columns_in rs) c d) (both (has q.columns c) (has q.columns d) (ap (λ (z : Row). has z.columns c) e ∙ h) (ap (λ (z : Row). has z.columns d) e ∙ k))
shared r (q ∷ rs) (inr m) c d h k = or_second (has q.columns c && has q.columns d) (share (columns_in rs) c d) (shared r rs m c d h k)

-- ---- entries

-- two lists of entries are equal where their values are
row_alike : (f g : Place → ℕ → ℤ) (i : ℕ) (a : Place) (cs : List ℕ) → ((c : ℕ) → has cs c ≡ true → f a c ≡ g a c) → entries_of_row f i a cs ≡ entries_of_row g i a cs
row_alike f g i a [] e = refl
row_alike f g i a (c ∷ cs) e = ap₂ (λ v es. record { row = i; col = c; value = v } ∷ es) (e c (or_first (c == c) (has cs c) (eqb_itself c))) (row_alike f g i a cs (λ d h. e d (or_second (d == c) (has cs d) h)))

pub entries_alike : (f g : Place → ℕ → ℤ) (rows : List Row) (i : ℕ) → ((r : Row) → Among r rows → (c : ℕ) → has r.columns c ≡ true → f r.at c ≡ g r.at c) → entries f rows i ≡ entries g rows i
unfolding Among
entries_alike f g [] i e = refl
entries_alike f g (r ∷ rs) i e = ap₂ (λ y z. y ++ z) (row_alike f g i r.at r.columns (e r (inl refl))) (entries_alike f g rs (suc i) (λ q m. e q (inr m)))

-- the columns of each row are those that the run gives its cell
pub columns_of_row : (out : Output (ℤ × Columns)) (n : ℕ) (cells : List Place) (r : Row) → Among r (rows_at out n cells) → r.columns ≡ listed (columns_at out r.at) n
unfolding Among
columns_of_row out n [] r m = absurd m
columns_of_row out n (a ∷ others) r (inl e) = ap (λ (z : Row). z.columns) (sym e) ∙ ap (λ (z : Row). listed (columns_at out z.at) n) e
columns_of_row out n (a ∷ others) r (inr m) = columns_of_row out n others r m

pub recovers_dense : RecoversDense
recovers_dense p out used e cells n groups l = entries_alike (found groups (λ g. tangent_of (dual_run p (seed groups g)))) (dense p) (rows_at out n cells) 0 told
  where
    told : (r : Row) → Among r (rows_at out n cells) → (c : ℕ) → has r.columns c ≡ true → tangent_of (dual_run p (seed groups (group_of groups c))) r.at ≡ dense p r.at c
    told r m c h = group_tells p out used e r.at groups (group_of groups c) c mine only
      where
        own : r.columns ≡ listed (columns_at out r.at) n
        own = columns_of_row out n cells r m

        mine : in_group groups (group_of groups c) c ≡ true
        mine = in_own groups c (let q = (listed_in (columns_at out r.at) 0 n c (ap (λ cs. has cs c) (sym own) ∙ h)).1 in omega (arith, q, l.each))

        only : (d : ℕ) → columns_at out r.at d ≡ true → in_group groups (group_of groups c) d ≡ true → d ≡ c
        only d k i = by (d == c) refl
          where
            there : has r.columns d ≡ true
            there = ap (λ cs. has cs d) own ∙ in_listed (columns_at out r.at) 0 n d k (omega arith) (let q = within_groups groups (group_of groups c) d i in omega (arith, q, l.each))

            by : (z : Bool) → (d == c) ≡ z → d ≡ c
            by true q = eqb-true d c q
            by false q = absurd (true≢false (sym (shared r (rows_at out n cells) m d c there h) ∙ shares_none (columns_in (rows_at out n cells)) n groups l (group_of groups c) d c i mine (λ f. true≢false (sym (eqb_same d c f) ∙ q))))
