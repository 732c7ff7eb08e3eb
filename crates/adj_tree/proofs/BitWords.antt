-- Bits of words.
use Rattle.std.proofs.Common.{◌≡◌, ℕ, ◌*◌, ◌/◌, ◌%◌, ◌^◌, ◌<◌, ◌≤◌, ◌⊎◌, inl, inr, Bool, true, false, List, length, get_or, set, bit_or, refl, sym, ap, ◌∙◌, eqb-true, eq-eqb, true≢false, arith}
use Rattle.std.specs.Prelude.{◌==◌, if◌then◌else◌}
use Rattle.std.specs.Int.{bit_at, w64}
use Rattle.std.proofs.lemmas.Nat.Bits.{bit_at-zero, bit_at_set_same, bit_at_set_other}
use Rattle.std.proofs.lemmas.Bool.{cases_lt, cases_eq}
use Rattle.std.proofs.lemmas.List.{get_or-set_same, get_or-set_other, get_or_past}
use Rattle.std.proofs.lemmas.List.FromFn.{get_or-map-range_with_len, length-map-range_with_len}
use Rattle.adj_tree.specs.Bits.{bit, values_in}

-- ---- one word is written

pub bit_set_same : (ws : List ℕ) (i v n : ℕ) → i < length ws → n / 64 ≡ i → bit (set ws i v) n ≡ bit_at v (n % 64)
bit_set_same ws i v n l e = ap (λ z. bit_at z (n % 64)) (ap (λ k. get_or (set ws i v) k 0) e ∙ get_or-set_same ws i v 0 l)

pub bit_set_other : (ws : List ℕ) (i v n : ℕ) → (n / 64 ≡ i → ⊥) → bit (set ws i v) n ≡ bit ws n
bit_set_other ws i v n f = ap (λ z. bit_at z (n % 64)) (get_or-set_other ws i (n / 64) v 0 f)

-- past the end there is no bit
pub bit_past : (ws : List ℕ) (n : ℕ) → length ws ≤ n / 64 → bit ws n ≡ 0
bit_past ws n l = ap (λ z. bit_at z (n % 64)) (get_or_past ws (n / 64) 0 l) ∙ bit_at-zero (n % 64)

-- ---- a bit is set

pub bit_put : (ws : List ℕ) (c n : ℕ) → c / 64 < length ws → bit (set ws (c / 64) (bit_or (get_or ws (c / 64) 0) (1 * 2 ^ (c % 64) % 2 ^ 64))) n ≡ (if n == c then 1 else bit ws n)
bit_put ws c n l = go (n == c) refl
  where
    v : ℕ
    v = bit_or (get_or ws (c / 64) 0) (1 * 2 ^ (c % 64) % 2 ^ 64)

    k : c % 64 < 64
    k = omega arith

    go : (b : Bool) → (n == c) ≡ b → bit (set ws (c / 64) v) n ≡ (if b then 1 else bit ws n)
    go true e =
        let q : n ≡ c = eqb-true n c e in
        bit_set_same ws (c / 64) v n l (ap (λ z. z / 64) q) ∙ ap (λ z. bit_at v (z % 64)) q ∙ bit_at_set_same w64 (get_or ws (c / 64) 0) (c % 64) k
    go false e = by (cases_eq (n / 64) (c / 64))
      where
        by : (n / 64 ≡ c / 64) ⊎ (n / 64 ≡ c / 64 → ⊥) → bit (set ws (c / 64) v) n ≡ bit ws n
        by (inl p) =
            let f : n % 64 ≡ c % 64 → ⊥ = λ r. true≢false (sym (eq-eqb n c (omega (arith, p, r))) ∙ e) in
            bit_set_same ws (c / 64) v n l p ∙ bit_at_set_other w64 (get_or ws (c / 64) 0) (c % 64) k (n % 64) f ∙ ap (λ z. bit_at (get_or ws z 0) (n % 64)) (sym p)
        by (inr p) = bit_set_other ws (c / 64) v n p

-- ---- the truth values

pub values_count : (ws : List ℕ) → length (values_in ws) ≡ 64 * length ws
unfolding values_in
values_count ws = length-map-range_with_len (λ n. bit ws n == 1) 0 (64 * length ws)

pub values_at : (ws : List ℕ) (n : ℕ) → get_or (values_in ws) n false ≡ (bit ws n == 1)
unfolding values_in
values_at ws n = go (cases_lt n (64 * length ws))
  where
    go : (n < 64 * length ws) ⊎ (64 * length ws ≤ n) → get_or (values_in ws) n false ≡ (bit ws n == 1)
    go (inl l) = get_or-map-range_with_len (λ n. bit ws n == 1) 0 (64 * length ws) n n false l (omega arith)
    go (inr l) =
        let past : length (values_in ws) ≤ n = omega (arith, values_count ws, l) in
        let words : length ws ≤ n / 64 = omega (arith, l) in
        get_or_past (values_in ws) n false past ∙ ap (λ b. b == 1) (sym (bit_past ws n words))
