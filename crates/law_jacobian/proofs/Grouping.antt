-- Least groups: no two columns of one share a row, and there is one such grouping.
use Rattle.std.proofs.Common.{◌≡◌, ◌≢◌, ℕ, zero, suc, ◌<◌, ◌≤◌, ◌⊎◌, inl, inr, Bool, true, false, List, [], ◌∷◌, length, refl, sym, ap, ap₂, ◌∙◌, eqb-true, eq-eqb, true≢false, le_refl, arith}
use Rattle.std.specs.Prelude.{◌==◌, ◌&&◌, ◌||◌}
use Rattle.def_jacobian.specs.Groups.{has, share, in_group, group_of, AreLeastGroups, count_of, HasColumn}
use Rattle.def_jacobian.specs.Laws.{SharesNone, OneGrouping, GroupsCounted}

-- numbers neither of which is less are one
level : (a b : ℕ) → (a < b → ⊥) → (b < a → ⊥) → a ≡ b
level zero zero f g = refl
level zero (suc b) f g = absurd (f (omega arith))
level (suc a) zero f g = absurd (g (omega arith))
level (suc a) (suc b) f g = ap suc (level a b (λ h. f (omega (arith, h))) (λ h. g (omega (arith, h))))

-- a number is itself
pub eqb_itself : (c : ℕ) → (c == c) ≡ true
eqb_itself c = eq-eqb c c refl

pub eqb_same : (c d : ℕ) → c ≡ d → (c == d) ≡ true
eqb_same c d e = ap (λ z. c == z) (sym e) ∙ eqb_itself c

-- columns share a row both ways
and_turned : (a b : Bool) → (a && b) ≡ (b && a)
and_turned true true = refl
and_turned true false = refl
and_turned false true = refl
and_turned false false = refl

share_turned : (rows : List (List ℕ)) (c d : ℕ) → share rows c d ≡ share rows d c
share_turned [] c d = refl
share_turned (r ∷ rows) c d = ap₂ (λ y z. y || z) (and_turned (has r c) (has r d)) (share_turned rows c d)

-- a column has one group
pub group_told : (groups : List ℕ) (g c : ℕ) → in_group groups g c ≡ true → group_of groups c ≡ g
group_told [] g c h = cc
group_told (k ∷ ks) g zero h = eqb-true k g h
group_told (k ∷ ks) g (suc c) h = group_told ks g c h

-- a column of the list is in its group
pub in_own : (groups : List ℕ) (c : ℕ) → c < length groups → in_group groups (group_of groups c) c ≡ true
in_own [] c h = absurd (omega (arith, h))
in_own (k ∷ ks) zero h = eqb_itself k
in_own (k ∷ ks) (suc c) h = in_own ks c (omega (arith, h))

shares_none_below : (rows : List (List ℕ)) (n : ℕ) (groups : List ℕ) → AreLeastGroups rows n groups → (g c d : ℕ) → in_group groups g c ≡ true → in_group groups g d ≡ true → c < d → share rows c d ≡ false
shares_none_below rows n groups l g c d h k lt = by (share rows c d) refl
  where
    by : (z : Bool) → share rows c d ≡ z → share rows c d ≡ false
    by true e = absurd (l.free g d k (record { column = c; before = lt; is_in = h; shares = e }))
    by false e = e

apart_or : (c d : ℕ) → c ≢ d → (c < d) ⊎ (d < c)
apart_or zero zero h = absurd (h refl)
apart_or zero (suc d) h = inl (omega arith)
apart_or (suc c) zero h = inr (omega arith)
apart_or (suc c) (suc d) h = up (apart_or c d (λ e. h (ap suc e)))
  where
    up : (c < d) ⊎ (d < c) → (suc c < suc d) ⊎ (suc d < suc c)
    up (inl l) = inl (omega (arith, l))
    up (inr l) = inr (omega (arith, l))

pub shares_none : SharesNone
shares_none rows n groups l g c d h k apart = by (apart_or c d apart)
  where
    by : (c < d) ⊎ (d < c) → share rows c d ≡ false
    by (inl lt) = shares_none_below rows n groups l g c d h k lt
    by (inr lt) = share_turned rows c d ∙ shares_none_below rows n groups l g d c k h lt

-- ---- one grouping

module _ (rows : List (List ℕ)) (n : ℕ) (groups others : List ℕ) (l : AreLeastGroups rows n groups) (m : AreLeastGroups rows n others) where
  -- a column's groups are one, where those of the columns before are
  no_less : (c : ℕ) → c < n → ((d : ℕ) → d < c → group_of groups d ≡ group_of others d) → (group_of groups c < group_of others c → ⊥) × (group_of others c < group_of groups c → ⊥)
  no_less c h same = (first, second)
    where
      first : group_of groups c < group_of others c → ⊥
      first lt =
          let t = m.least (group_of others c) c (in_own others c (omega (arith, h, m.each))) (group_of groups c) lt in
          l.free (group_of groups c) c (in_own groups c (omega (arith, h, l.each))) (record {
            column = t.column;
            before = t.before;
            is_in = ap (λ g. in_group groups g t.column) (sym (same t.column t.before ∙ group_told others (group_of groups c) t.column t.is_in)) ∙ in_own groups t.column (omega (arith, h, l.each, t.before));
            shares = t.shares;
          })

      second : group_of others c < group_of groups c → ⊥
      second lt =
          let t = l.least (group_of groups c) c (in_own groups c (omega (arith, h, l.each))) (group_of others c) lt in
          m.free (group_of others c) c (in_own others c (omega (arith, h, m.each))) (record {
            column = t.column;
            before = t.before;
            is_in = ap (λ g. in_group others g t.column) (sym (sym (same t.column t.before) ∙ group_told groups (group_of others c) t.column t.is_in)) ∙ in_own others t.column (omega (arith, h, m.each, t.before));
            shares = t.shares;
          })

  same_next : (b : ℕ) → b < n → ((d : ℕ) → d < b → group_of groups d ≡ group_of others d) → (d : ℕ) → d < suc b → group_of groups d ≡ group_of others d
  same_next b h same d lt = by (d == b) refl
    where
      same_at : group_of groups b ≡ group_of others b
      same_at = let s = no_less b h same in level (group_of groups b) (group_of others b) s.0 s.1

      by : (z : Bool) → (d == b) ≡ z → group_of groups d ≡ group_of others d
      by true e = ap (group_of groups) (eqb-true d b e) ∙ same_at ∙ ap (group_of others) (sym (eqb-true d b e))
      by false e = same d (other (apart_or d b (λ q. true≢false (sym (eqb_same d b q) ∙ e))))
        where
          other : (d < b) ⊎ (b < d) → d < b
          other (inl k) = k
          other (inr k) = absurd (omega (arith, k, lt))

  below_same : (b : ℕ) → b ≤ n → (d : ℕ) → d < b → group_of groups d ≡ group_of others d
  below_same zero h d lt = absurd (omega (arith, lt))
  below_same (suc b) h d lt = same_next b (omega (arith, h)) (below_same b (omega (arith, h))) d lt

-- lists that are as long and have the same groups are one
lists_same : (gs hs : List ℕ) → length gs ≡ length hs → ((c : ℕ) → c < length gs → group_of gs c ≡ group_of hs c) → gs ≡ hs
lists_same [] [] e f = refl
lists_same [] (h ∷ hs) e f = cc
lists_same (g ∷ gs) [] e f = cc
lists_same (g ∷ gs) (h ∷ hs) e f = ap₂ (λ y ys. y ∷ ys) (f 0 (omega arith)) (lists_same gs hs (omega (arith, e)) (λ c k. f (suc c) (omega (arith, k))))

pub one_grouping : OneGrouping
one_grouping rows n groups others l m =
    lists_same groups others (l.each ∙ sym m.each) (λ c k. below_same rows n groups others l m n (le_refl n) c (omega (arith, k, l.each)))

-- ---- their count

below_count : (groups : List ℕ) (g c : ℕ) → in_group groups g c ≡ true → g < count_of groups
below_count [] g c h = cc
below_count (k ∷ ks) g zero h = let q = eqb-true k g h in omega (arith, q)
below_count (k ∷ ks) g (suc c) h = let q = below_count ks g c h in omega (arith, q)

last_group : (groups : List ℕ) (g : ℕ) → count_of groups ≡ suc g → HasColumn groups g
last_group [] g e = cc
last_group (k ∷ ks) g e = by (k == g) refl (λ q. last_group ks g q)
  where
    by : (z : Bool) → (k == g) ≡ z → (count_of ks ≡ suc g → HasColumn ks g) → HasColumn (k ∷ ks) g
    by true q f = record { column = 0; is_in = q }
    by false q f = let n : k ≢ g = λ r. true≢false (sym (eqb_same k g r) ∙ q) in let rest = f (omega (arith, e, n)) in record { column = suc rest.column; is_in = rest.is_in }

pub groups_counted : GroupsCounted
groups_counted groups g = (λ c h. below_count groups g c h, last_group groups g)
