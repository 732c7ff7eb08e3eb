-- Powers: a power without wrapping is std's; and where the exponent is large it turns on whether that is even.
use Rattle.std.specs.Prelude.{◌≡◌, ◌+◌, ◌-◌, ◌*◌, ◌%◌, ◌^◌, ◌<◌, ◌≤◌, ◌==◌, ℕ, ℤ, Bool, zero, suc, pos, negsuc, neg_ℤ, ◌*ℤ◌, true, false, min, not, Option, Some, None, if◌then◌else◌, SomeIff, FitsSigned}
use Rattle.std.specs.Int.{int_pow}
use Rattle.std.proofs.Common.{refl, ap, ap₂, sym, ◌∙◌, arith, inl, inr, le_trans, pow_mono, pow-suc, mul-zero, w64}
use Rattle.std.proofs.Math.Nat.{mul-one, pow-le-pow_left, pow-succ', pow-zero}
use Rattle.std.proofs.lemmas.Bool.{cases_lt, le-ltb, lt-ltb, le-leb, lt-leb}
use Rattle.def_text.specs.Grammar.{to_power, in_words}

signed : Bool → ℕ → ℤ
signed b n = if b then pos n else neg_ℤ (pos n)

negative-times : (a n : ℕ) (b : Bool) → negsuc a *ℤ signed b n ≡ signed (not b) (suc a * n)
unfolding signed
negative-times a n true = refl
negative-times a zero false = rw (mul-zero (suc a)) refl
negative-times a (suc n) false = refl

even-suc : (k : ℕ) → not (k % 2 == 0) ≡ (suc k % 2 == 0)
even-suc k = grind arith

to_power-negative : (a k : ℕ) → to_power (negsuc a) k ≡ signed (k % 2 == 0) (suc a ^ k)
unfolding to_power signed
to_power-negative a zero = ap pos (sym (pow-zero (suc a)))
to_power-negative a (suc k) = ap (λ z. negsuc a *ℤ z) (to_power-negative a k) ∙ negative-times a (suc a ^ k) (k % 2 == 0) ∙ ap₂ signed (even-suc k) (sym (pow-succ' (suc a) k))

-- a power is that of std
pub to_power-int_pow : (z : ℤ) (k : ℕ) → to_power z k ≡ int_pow z k
unfolding to_power signed
to_power-int_pow (pos a) zero = ap pos (sym (pow-zero a))
to_power-int_pow (pos a) (suc k) = ap (λ z. pos a *ℤ z) (to_power-int_pow (pos a) k) ∙ ap pos (sym (pow-succ' a k))
to_power-int_pow (negsuc a) k = to_power-negative a k

zero-pow : (e : ℕ) → 0 < e → 0 ^ e ≡ 0
zero-pow zero h = absurd (omega arith)
zero-pow (suc e) h = pow-suc 0 e ∙ mul-zero (0 ^ e)

one-pow : (e : ℕ) → 1 ^ e ≡ 1
one-pow zero = refl
one-pow (suc e) = pow-suc 1 e ∙ mul-one (1 ^ e) ∙ one-pow e

past : (n e : ℕ) → 64 ≤ e → 2 ^ 64 ≤ suc (suc n) ^ e
past n e h =
    let two : 2 ≤ suc (suc n) = omega arith in
    le_trans (pow_mono h) (pow-le-pow_left two e)

past-signed : (b : Bool) (m : ℕ) → 2 ^ 64 ≤ m → in_words (if b then pos m else neg_ℤ (pos m)) ≡ None
past-signed true m h = rw (le-ltb m (2 ^ 63) (omega arith)) refl
past-signed false zero h = absurd (omega arith)
past-signed false (suc m) h = rw (lt-leb m (2 ^ 63 - 1) (omega arith)) refl

-- from 64 on two exponents that are both even or both odd have the same power, where that is a word
same_power : (z : ℤ) (e k : ℕ) → 64 ≤ e → 64 ≤ k → e % 2 ≡ k % 2 → in_words (int_pow z e) ≡ in_words (int_pow z k)
same_power (pos zero) e k g h p = ap (λ n. in_words (pos n)) (zero-pow e (omega arith) ∙ sym (zero-pow k (omega arith)))
same_power (pos (suc zero)) e k g h p = ap (λ n. in_words (pos n)) (one-pow e ∙ sym (one-pow k))
same_power (pos (suc (suc n))) e k g h p = past-signed true _ (past n e g) ∙ sym (past-signed true _ (past n k h))
same_power (negsuc zero) e k g h p = ap₂ (λ (r m : ℕ). in_words (if r == 0 then pos m else neg_ℤ (pos m))) p (one-pow e ∙ sym (one-pow k))
same_power (negsuc (suc n)) e k g h p = past-signed (e % 2 == 0) _ (past n e g) ∙ sym (past-signed (k % 2 == 0) _ (past n k h))

pub small_power : (z : ℤ) (k : ℕ) → in_words (int_pow z (min k (64 + k % 2))) ≡ in_words (int_pow z k)
small_power z k =
    elim (cases_lt k 64) [
      | inl lt ↦ let e : min k (64 + k % 2) ≡ k = omega arith in ap (λ n. in_words (int_pow z n)) e
      | inr le ↦ same_power z (min k (64 + k % 2)) k (omega arith) le (omega arith)
    ]

fits-in_words : (z : ℤ) → FitsSigned w64 z → in_words z ≡ Some z
fits-in_words (pos n) h = rw (lt-ltb n (2 ^ 63) h.sfits) refl
fits-in_words (negsuc n) h = rw (le-leb n (2 ^ 63 - 1) (omega (arith, h.sfits))) refl

large-in_words : (z : ℤ) → (FitsSigned w64 z → ⊥) → None ≡ in_words z
large-in_words (pos n) h = elim (cases_lt n (2 ^ 63)) [ inl lt ↦ absurd (h record { sfits = lt }) | inr le ↦ rw (le-ltb n (2 ^ 63) le) refl ]
large-in_words (negsuc n) h = elim (cases_lt n (2 ^ 63)) [ inl lt ↦ absurd (h record { sfits = lt }) | inr le ↦ rw (lt-leb n (2 ^ 63 - 1) (omega arith)) refl ]

-- what a checked operation gives
pub in_words-checked : (r : Option ℤ) (z : ℤ) → SomeIff r (FitsSigned w64 z) z → r ≡ in_words z
in_words-checked (Some x) z h = ap Some h.1 ∙ sym (fits-in_words z h.0)
in_words-checked None z h = large-in_words z h
