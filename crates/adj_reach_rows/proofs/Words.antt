-- Bits of words.
use Rattle.std.proofs.Common.{◌≡◌, ℕ, ◌+◌, ◌-◌, ◌*◌, ◌/◌, ◌%◌, ◌^◌, ◌<◌, ◌≤◌, ◌⊎◌, inl, inr, min, max, Bool, true, false, List, length, get_or, set, bit_and, bit_or, refl, sym, ap, ◌∙◌, eqb-true, eq-eqb, true≢false, arith}
use Rattle.std.specs.Prelude.{◌==◌, if◌then◌else◌}
use Rattle.std.specs.Int.{bit_at, bit_not, w64}
use Rattle.std.proofs.lemmas.Nat.{one_shl, pow_below}
use Rattle.std.proofs.lemmas.Nat.Bits.{bit_at-lt, bit_at-zero, bit_at_and, bit_at_or, bit_at_not, bit_at-pow_same, bit_at-pow_other, bit_at_ones, bit_at_above, same_from_bits}
use Rattle.std.specs.Int.Bits.{or_add_and}
use Rattle.std.proofs.lemmas.Bool.{cases_lt, cases_eq}
use Rattle.adj_tree.specs.Bits.{bit}
use Rattle.adj_tree.proofs.BitWords.{bit_set_same, bit_set_other, bit_past, bit_put}

-- so a bit that is set is within
pub bit_within : (ws : List ℕ) (n : ℕ) → bit ws n ≡ 1 → n / 64 < length ws
bit_within ws n h = go (cases_lt (n / 64) (length ws))
  where
    go : (n / 64 < length ws) ⊎ (length ws ≤ n / 64) → n / 64 < length ws
    go (inl l) = l
    go (inr l) = let e : bit ws n ≡ 0 = bit_past ws n l in absurd (omega (arith, h))

-- the bit of a column is set
pub bit_put_in : (ws : List ℕ) (first c n : ℕ) → first + c / 64 < length ws →
    bit (set ws (first + c / 64) (bit_or (get_or ws (first + c / 64) 0) (1 * 2 ^ (c % 64) % 2 ^ 64))) n ≡ (if n == first * 64 + c then 1 else bit ws n)
bit_put_in ws first c n l =
    let k = first * 64 + c in
    let p : k / 64 ≡ first + c / 64 = omega arith in
    let r : k % 64 ≡ c % 64 = omega arith in
    let m : k / 64 < length ws = omega (arith, l) in
    sym (λ j. bit (set ws (p j) (bit_or (get_or ws (p j) 0) (1 * 2 ^ (r j) % 2 ^ 64))) n) ∙ bit_put ws k n m

-- ---- the words of what isn't left

pub ones_bit : (k : ℕ) → k < 64 → bit_at (2 ^ 64 - 1) k ≡ 1
ones_bit k l = bit_at_ones 64 k l

-- all bits but one
pub but_one : (v j : ℕ) → v / 64 ≡ j / 64 → bit_at (bit_not w64 (1 * 2 ^ (v % 64) % 2 ^ 64)) (j % 64) ≡ (if v == j then 0 else 1)
but_one v j e = go (v == j) refl
  where
    k : v % 64 < 64
    k = omega arith

    one : 1 * 2 ^ (v % 64) % 2 ^ 64 ≡ 2 ^ (v % 64)
    one = one_shl (v % 64) 64 k

    bits : bit_at (bit_not w64 (1 * 2 ^ (v % 64) % 2 ^ 64)) (j % 64) ≡ 1 - bit_at (2 ^ (v % 64)) (j % 64)
    bits = ap (λ z. bit_at (bit_not w64 z) (j % 64)) one ∙ bit_at_not w64 (2 ^ (v % 64)) (j % 64) (pow_below (v % 64) 64 k) (omega arith)

    go : (b : Bool) → (v == j) ≡ b → bit_at (bit_not w64 (1 * 2 ^ (v % 64) % 2 ^ 64)) (j % 64) ≡ (if b then 0 else 1)
    go true q =
        let p : v ≡ j = eqb-true v j q in
        bits ∙ ap (λ z. 1 - bit_at (2 ^ (v % 64)) (z % 64)) (sym p) ∙ ap (λ z. 1 - z) (bit_at-pow_same (v % 64))
    go false q =
        let f : j % 64 ≡ v % 64 → ⊥ = λ r. true≢false (sym (eq-eqb v j (omega (arith, e, r))) ∙ q) in
        bits ∙ ap (λ z. 1 - z) (bit_at-pow_other (v % 64) (j % 64) f)

-- what stands in another word is another
pub other_word : (v j w : ℕ) → (v / 64 ≡ w → ⊥) → j / 64 ≡ w → (v == j) ≡ false
other_word v j w f e = go (v == j) refl
  where
    go : (b : Bool) → (v == j) ≡ b → b ≡ false
    go true q = let p : v ≡ j = eqb-true v j q in absurd (f (ap (λ z. z / 64) p ∙ e))
    go false q = refl

-- ---- a word is joined with another

pub or_keeps : (ws : List ℕ) (w v n : ℕ) → w < length ws → bit ws n ≡ 1 → bit (set ws w (bit_or (get_or ws w 0) v)) n ≡ 1
or_keeps ws w v n l h = go (cases_eq (n / 64) w)
  where
    go : (n / 64 ≡ w) ⊎ (n / 64 ≡ w → ⊥) → bit (set ws w (bit_or (get_or ws w 0) v)) n ≡ 1
    go (inl p) =
        let a : bit_at (get_or ws w 0) (n % 64) ≡ 1 = ap (λ z. bit_at (get_or ws z 0) (n % 64)) (sym p) ∙ h in
        let b : bit_at (bit_or (get_or ws w 0) v) (n % 64) ≡ max (bit_at (get_or ws w 0) (n % 64)) (bit_at v (n % 64)) = bit_at_or (get_or ws w 0) v (n % 64) in
        let c : bit_at v (n % 64) < 2 = bit_at-lt v (n % 64) in
        bit_set_same ws w (bit_or (get_or ws w 0) v) n l p ∙ omega (arith, a, b, c)
    go (inr p) = bit_set_other ws w (bit_or (get_or ws w 0) v) n p ∙ h

pub or_has : (ws : List ℕ) (w v n : ℕ) → w < length ws → n / 64 ≡ w → bit_at v (n % 64) ≡ 1 → bit (set ws w (bit_or (get_or ws w 0) v)) n ≡ 1
or_has ws w v n l p h =
    let b : bit_at (bit_or (get_or ws w 0) v) (n % 64) ≡ max (bit_at (get_or ws w 0) (n % 64)) (bit_at v (n % 64)) = bit_at_or (get_or ws w 0) v (n % 64) in
    let c : bit_at (get_or ws w 0) (n % 64) < 2 = bit_at-lt (get_or ws w 0) (n % 64) in
    bit_set_same ws w (bit_or (get_or ws w 0) v) n l p ∙ omega (arith, h, b, c)

pub or_only : (ws : List ℕ) (w v n : ℕ) → w < length ws → bit (set ws w (bit_or (get_or ws w 0) v)) n ≡ 1 → (bit ws n ≡ 1) ⊎ ((n / 64 ≡ w) × (bit_at v (n % 64) ≡ 1))
or_only ws w v n l h = go (cases_eq (n / 64) w)
  where
    go : (n / 64 ≡ w) ⊎ (n / 64 ≡ w → ⊥) → (bit ws n ≡ 1) ⊎ ((n / 64 ≡ w) × (bit_at v (n % 64) ≡ 1))
    go (inl p) = by (cases_eq (bit_at v (n % 64)) 1)
      where
        by : (bit_at v (n % 64) ≡ 1) ⊎ (bit_at v (n % 64) ≡ 1 → ⊥) → (bit ws n ≡ 1) ⊎ ((n / 64 ≡ w) × (bit_at v (n % 64) ≡ 1))
        by (inl q) = inr (p, q)
        by (inr q) =
            let a : bit ws n ≡ bit_at (get_or ws w 0) (n % 64) = ap (λ z. bit_at (get_or ws z 0) (n % 64)) p in
            let b : bit_at (bit_or (get_or ws w 0) v) (n % 64) ≡ max (bit_at (get_or ws w 0) (n % 64)) (bit_at v (n % 64)) = bit_at_or (get_or ws w 0) v (n % 64) in
            let c : bit_at v (n % 64) < 2 = bit_at-lt v (n % 64) in
            let d : bit_at (bit_or (get_or ws w 0) v) (n % 64) ≡ 1 = sym (bit_set_same ws w (bit_or (get_or ws w 0) v) n l p) ∙ h in
            inl (a ∙ omega (arith, b, c, d, q))
    go (inr p) = inl (sym (bit_set_other ws w (bit_or (get_or ws w 0) v) n p) ∙ h)

-- ---- the bits of one number that another lacks

module _ (bits s : ℕ) (low : s < 2 ^ 64) where
  abbrev pub lacking : ℕ
  lacking = bit_and bits (bit_not w64 s)

  lacking_bit : (k : ℕ) → k < 64 → bit_at lacking k ≡ min (bit_at bits k) (1 - bit_at s k)
  lacking_bit k l = bit_at_and bits (bit_not w64 s) k ∙ ap (λ z. min (bit_at bits k) z) (bit_at_not w64 s k low l)

  -- a bit is among them or the other has it
  pub lacks : (k : ℕ) → k < 64 → bit_at bits k ≡ 1 → (bit_at s k ≡ 1) ⊎ (bit_at lacking k ≡ 1)
  lacks k l h = go (cases_eq (bit_at s k) 1)
    where
      go : (bit_at s k ≡ 1) ⊎ (bit_at s k ≡ 1 → ⊥) → (bit_at s k ≡ 1) ⊎ (bit_at lacking k ≡ 1)
      go (inl p) = inl p
      go (inr p) = inr (let a : bit_at s k < 2 = bit_at-lt s k in let b : bit_at lacking k ≡ min (bit_at bits k) (1 - bit_at s k) = lacking_bit k l in omega (arith, a, b, h, p))

  pub lacking_only : (k : ℕ) → k < 64 → bit_at lacking k ≡ 1 → bit_at bits k ≡ 1
  lacking_only k l h =
      let a : bit_at bits k < 2 = bit_at-lt bits k in
      let b : bit_at lacking k ≡ min (bit_at bits k) (1 - bit_at s k) = lacking_bit k l in
      omega (arith, a, b, h)

  -- they are apart from it
  apart : bit_and s lacking ≡ 0
  apart = same_from_bits (bit_and s lacking) 0 (λ k. go k (cases_lt k 64) ∙ sym (bit_at-zero k))
    where
      go : (k : ℕ) → (k < 64) ⊎ (64 ≤ k) → bit_at (bit_and s lacking) k ≡ 0
      go k (inl l) =
          let a : bit_at (bit_and s lacking) k ≡ min (bit_at s k) (bit_at lacking k) = bit_at_and s lacking k in
          let b : bit_at lacking k ≡ min (bit_at bits k) (1 - bit_at s k) = lacking_bit k l in
          let d : bit_at s k < 2 = bit_at-lt s k in
          omega (arith, a, b, d)
      go k (inr l) =
          let a : bit_at (bit_and s lacking) k ≡ min (bit_at s k) (bit_at lacking k) = bit_at_and s lacking k in
          let b : bit_at s k ≡ 0 = bit_at_above s 64 k low l in
          omega (arith, a, b)

  -- so with them it is greater
  pub joined_more : (lacking ≡ 0 → ⊥) → s < bit_or s lacking
  joined_more f =
      let a : bit_or s lacking + bit_and s lacking ≡ s + lacking = or_add_and s lacking in
      let b : bit_and s lacking ≡ 0 = apart in
      omega (arith, a, b, f)
