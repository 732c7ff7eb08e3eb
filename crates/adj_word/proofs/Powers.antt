-- Powers of words.
use Rattle.std.proofs.Common.{◌≡◌, ℕ, zero, suc, ◌%◌, ◌^◌, ◌<◌, rules, refl, ap, ◌∙◌, sym}
use Rattle.std.specs.Prelude.{ℤ, pos}
use Rattle.std.specs.Int.{w64, cast_signed, cast_unsigned, int_wrapping_pow}
use Rattle.std.proofs.Math.Nat.{pow-zero, pow-suc}
use Rattle.std.proofs.lemmas.Nat.{mul-mod_first}
use Rattle.std.proofs.lemmas.Int.{wrapping_mul_onto}
use Rattle.adj_word.specs.Word.{wrap, IsWord, mul, raised, power}
use Rattle.adj_word.proofs.Integers.{one-mul_ℤ}
use Rattle.adj_word.proofs.Residues.{held, held_word, word-wrap, wrap-one, wrap-mul_left, wrap-mul_right}

pub power-zero : (z : ℤ) → power z 0 ≡ pos 1
power-zero z = wrap-one

-- one factor more
pub power-suc : (z : ℤ) (e : ℕ) → power z (suc e) ≡ mul (power z e) z
power-suc z e = sym (wrap-mul_left (raised z e) z)

pub power-one : (z : ℤ) → power z 1 ≡ wrap z
power-one z = ap wrap (one-mul_ℤ z)

-- the residue of the base may be taken first
pub wrap-power : (z : ℤ) (e : ℕ) → power (wrap z) e ≡ power z e
wrap-power z zero = refl
wrap-power z (suc e) = power-suc (wrap z) e ∙ ap (λ x. mul x (wrap z)) (wrap-power z e) ∙ wrap-mul_right (power z e) z ∙ sym (power-suc z e)

-- the bits of a power are those of its residue
wrapping_pow_is : (z : ℤ) (e : ℕ) → IsWord z → int_wrapping_pow w64 z e ≡ power z e
wrapping_pow_is z zero h = ap (λ n. cast_signed w64 (n % 2 ^ 64)) (pow-zero (cast_unsigned w64 z)) ∙ sym wrap-one
wrapping_pow_is z (suc e) h =
    let bits = cast_unsigned w64 z in
    let below : bits ^ e % 2 ^ 64 < 2 ^ 64 = search rules in
    ap (λ n. cast_signed w64 (n % 2 ^ 64)) (pow-suc bits e)
    ∙ ap (cast_signed w64) (sym (mul-mod_first (bits ^ e) bits (2 ^ 64)))
    ∙ wrapping_mul_onto w64 (bits ^ e % 2 ^ 64) z below h
    ∙ ap (λ x. mul x z) (wrapping_pow_is z e h)
    ∙ wrap-mul_left (raised z e) z

-- what the code's power gives
pub power_held : (z r : ℤ) (e : ℕ) → IsWord z → r ≡ int_wrapping_pow w64 (held z) e → held r ≡ power z e
power_held z r e h is =
    ap held (is ∙ ap (λ x. int_wrapping_pow w64 x e) (held_word z h) ∙ wrapping_pow_is z e h) ∙ held_word (power z e) (word-wrap (raised z e))
