-- Words with masks do as words with some of the columns.
use Rattle.std.proofs.Common.{◌≡◌, ℕ, zero, suc, ◌/◌, ◌%◌, ◌^◌, ◌<◌, ◌≢◌, max, Bool, true, false, List, [], ◌∷◌, length, slice_set, get_or, replicate, bit_or, refl, sym, ap, ap₂, ◌∙◌, eqb-true, eq-eqb, true≢false, arith}
use Rattle.std.specs.Prelude.{ℤ, ◌==◌, ◌&&◌, ◌||◌, if◌then◌else◌}
use Rattle.std.specs.Int.{bit_at}
use Rattle.std.proofs.lemmas.Nat.Bits.{bit_at_or, bit_at-lt, bit_at-zero, bit_at-pow_same, bit_at-pow_other}
use Rattle.std.proofs.lemmas.List.FromFn.{get_or-map-range_with_len}
use Rattle.adj_word.specs.Word.{add, sub, mul, power}
use Rattle.def_meaning.specs.Seen.{Projects}
use Rattle.def_jacobian.specs.Columns.{one_column, marked, columns_of_power}
use Rattle.def_jacobian.specs.Laws.{in_part}
use Rattle.adj_jacobian_block.specs.Blocks.{blocks, either_of, mask_of_power, has_bit, columns_of, marked_by, own_in, mask_in, inside_block}

-- the greater of two bits is set where one of them is
bits_or : (a b : ℕ) → a < 2 → b < 2 → (max a b == 1) ≡ ((a == 1) || (b == 1))
bits_or zero zero h k = refl
bits_or zero (suc zero) h k = refl
bits_or (suc zero) zero h k = refl
bits_or (suc zero) (suc zero) h k = refl
bits_or (suc (suc a)) b h k = absurd (omega (arith, h))
bits_or zero (suc (suc b)) h k = absurd (omega (arith, k))
bits_or (suc zero) (suc (suc b)) h k = absurd (omega (arith, k))

-- a word of either mask
word_or : (xs ys : List ℕ) (j : ℕ) → j < 4 → get_or (either_of xs ys) j 0 ≡ bit_or (get_or xs j 0) (get_or ys j 0)
word_or xs ys j h = get_or-map-range_with_len (λ k. bit_or (get_or xs k 0) (get_or ys k 0)) 0 4 j j 0 h (omega arith)

bit_of_either : (xs ys : List ℕ) (i : ℕ) → i < 256 → has_bit (either_of xs ys) i ≡ (has_bit xs i || has_bit ys i)
bit_of_either xs ys i h =
    ap (λ z. bit_at z (i % 64) == 1) (word_or xs ys (i / 64) (omega (arith, h)))
    ∙ ap (λ z. z == 1) (bit_at_or (get_or xs (i / 64) 0) (get_or ys (i / 64) 0) (i % 64))
    ∙ bits_or (bit_at (get_or xs (i / 64) 0) (i % 64)) (bit_at (get_or ys (i / 64) 0) (i % 64)) (bit_at-lt (get_or xs (i / 64) 0) (i % 64)) (bit_at-lt (get_or ys (i / 64) 0) (i % 64))

-- no bit of a mask of zeros is set
zero_word : (n j : ℕ) → let z : ℕ = get_or (replicate n 0) j 0 in z ≡ 0
zero_word zero zero = refl
zero_word zero (suc j) = refl
zero_word (suc n) zero = refl
zero_word (suc n) (suc j) = zero_word n j

bit_of_zeros : (i : ℕ) → has_bit (replicate 4 0) i ≡ false
bit_of_zeros i = ap (λ z. bit_at z (i % 64) == 1) (zero_word 4 (i / 64)) ∙ ap (λ z. z == 1) (bit_at-zero (i % 64))

and_or : (p a b : Bool) → (p && (a || b)) ≡ ((p && a) || (p && b))
and_or true a b = refl
and_or false a b = refl

and_none : (p : Bool) → (p && false) ≡ false
and_none true = refl
and_none false = refl

module _ (k : ℕ) where
  either_seen : (xs ys : List ℕ) (c : ℕ) → columns_of k (either_of xs ys) c ≡ (columns_of k xs c || columns_of k ys c)
  either_seen xs ys c = ap (λ z. (c / 256 == k) && z) (bit_of_either xs ys (c % 256) (omega arith)) ∙ and_or (c / 256 == k) (has_bit xs (c % 256)) (has_bit ys (c % 256))

  zeros_seen : (c : ℕ) → columns_of k (replicate 4 0) c ≡ false
  zeros_seen c = ap (λ z. (c / 256 == k) && z) (bit_of_zeros (c % 256)) ∙ and_none (c / 256 == k)

  power_seen : (m : List ℕ) (e c : ℕ) → columns_of k (mask_of_power m e) c ≡ columns_of_power (columns_of k m) e c
  power_seen m zero c = zeros_seen c
  power_seen m (suc e) c = refl

  pub blocks_do : Projects (marked_by k) blocks marked
  blocks_do = record {
    of_word = λ z i. (z, λ c. zeros_seen c i);
    shown = λ a. refl;
    negation = λ a. refl;
    sum = λ a b i. (add a.value b.value, λ c. either_seen a.columns b.columns c i);
    difference = λ a b i. (sub a.value b.value, λ c. either_seen a.columns b.columns c i);
    product = λ a b i. (mul a.value b.value, λ c. either_seen a.columns b.columns c i);
    raised_to = λ a e i. (power a.value e, λ c. power_seen a.columns e c i);
  }

-- ---- what a block starts with

set_same : (xs : List ℕ) (j v : ℕ) → j < length xs → get_or (slice_set xs j v) j 0 ≡ v
set_same [] j v h = absurd (omega (arith, h))
set_same (x ∷ xs) zero v h = refl
set_same (x ∷ xs) (suc j) v h = set_same xs j v (omega (arith, h))

set_other : (xs : List ℕ) (j i v : ℕ) → i ≢ j → get_or (slice_set xs j v) i 0 ≡ get_or xs i 0
set_other [] j i v f = refl
set_other (x ∷ xs) zero zero v f = absurd (f refl)
set_other (x ∷ xs) zero (suc i) v f = refl
set_other (x ∷ xs) (suc j) zero v f = refl
set_other (x ∷ xs) (suc j) (suc i) v f = set_other xs j i v (λ e. f (ap suc e))

-- the mask of a place has its bit
place_bit : (p : ℕ) → p < 256 → has_bit (slice_set (replicate 4 0) (p / 64) (2 ^ (p % 64))) p ≡ true
place_bit p h = ap (λ z. bit_at z (p % 64) == 1) (set_same (replicate 4 0) (p / 64) (2 ^ (p % 64)) (omega (arith, h))) ∙ ap (λ z. z == 1) (bit_at-pow_same (p % 64))

-- and no other
other_bit : (p i : ℕ) → p < 256 → i ≢ p → has_bit (slice_set (replicate 4 0) (p / 64) (2 ^ (p % 64))) i ≡ false
other_bit p i h f = by (i / 64 == p / 64) refl
  where
    by : (z : Bool) → (i / 64 == p / 64) ≡ z → has_bit (slice_set (replicate 4 0) (p / 64) (2 ^ (p % 64))) i ≡ false
    by true e =
        let q : i / 64 ≡ p / 64 = eqb-true (i / 64) (p / 64) e in
        ap (λ z. bit_at z (i % 64) == 1) (ap (λ z. get_or (slice_set (replicate 4 0) (p / 64) (2 ^ (p % 64))) z 0) q ∙ set_same (replicate 4 0) (p / 64) (2 ^ (p % 64)) (omega (arith, h)))
        ∙ ap (λ z. z == 1) (bit_at-pow_other (p % 64) (i % 64) (λ r. f (omega (arith, q, r))))
    by false e =
        ap (λ z. bit_at z (i % 64) == 1) (set_other (replicate 4 0) (p / 64) (i / 64) (2 ^ (p % 64)) (λ r. true≢false (sym (eq-eqb (i / 64) (p / 64) r) ∙ e)))
        ∙ bit_of_zeros i

-- a column's number in the block has the columns of its own that are inside
module _ (k c : ℕ) where
  mask_is : (x : Bool) → (c / 256 == k) ≡ x → mask_in k c ≡ (if x then slice_set (replicate 4 0) (c % 256 / 64) (2 ^ (c % 256 % 64)) else replicate 4 0)
  mask_is x e = ap (λ y. if y then slice_set (replicate 4 0) (c % 256 / 64) (2 ^ (c % 256 % 64)) else replicate 4 0) e

  own_seen : (d : ℕ) → columns_of k (mask_in k c) d ≡ (one_column c d && inside_block k d)
  own_seen d = by (c / 256 == k) refl (d == c) refl
    where
      same_place : d / 256 ≡ k → c / 256 ≡ k → d % 256 ≡ c % 256 → d ≡ c
      same_place p q r = omega (arith, p, q, r)

      by : (x : Bool) → (c / 256 == k) ≡ x → (y : Bool) → (d == c) ≡ y → columns_of k (mask_in k c) d ≡ (one_column c d && inside_block k d)
      by true e true f =
          let q : d ≡ c = eqb-true d c f in
          ap₂ (λ u m. u && has_bit m (d % 256)) (ap (λ z. z / 256 == k) q ∙ e) (mask_is true e)
          ∙ ap (has_bit (slice_set (replicate 4 0) (c % 256 / 64) (2 ^ (c % 256 % 64)))) (ap (λ z. z % 256) q) ∙ place_bit (c % 256) (omega arith)
          ∙ sym (ap₂ (λ u v. u && v) f (ap (λ z. z / 256 == k) q ∙ e))
      by true e false f = at (d / 256 == k) refl
        where
          at : (y : Bool) → (d / 256 == k) ≡ y → columns_of k (mask_in k c) d ≡ (one_column c d && inside_block k d)
          at true g =
              ap₂ (λ u m. u && has_bit m (d % 256)) g (mask_is true e)
              ∙ other_bit (c % 256) (d % 256) (omega arith) (λ r. true≢false (sym (eq-eqb d c (same_place (eqb-true (d / 256) k g) (eqb-true (c / 256) k e) r)) ∙ f))
              ∙ sym (ap (λ u. u && inside_block k d) f)
          at false g = ap (λ u. u && has_bit (mask_in k c) (d % 256)) g ∙ sym (ap (λ u. u && inside_block k d) f)
      by false e true f = ap (λ m. (d / 256 == k) && has_bit m (d % 256)) (mask_is false e) ∙ zeros_seen k d ∙ sym (ap₂ (λ u v. u && v) f (ap (λ z. z / 256 == k) (eqb-true d c f) ∙ e))
      by false e false f = ap (λ m. (d / 256 == k) && has_bit m (d % 256)) (mask_is false e) ∙ zeros_seen k d ∙ sym (ap (λ u. u && inside_block k d) f)

  pub own_is : (z : ℤ) → marked_by k (own_in k z c) ≡ in_part (inside_block k) (z, one_column c)
  own_is z = λ i. (z, λ d. own_seen d i)
