-- Quotients cut towards zero, what they leave, and the bits that they are held in.
use Rattle.std.proofs.Common.{◌≡◌, ℕ, zero, suc, ◌<◌, ◌≤◌, ◌^◌, ◌/◌, arith, refl, ap, ◌∙◌, sym}
use Rattle.std.specs.Prelude.{ℤ, pos, negsuc, neg_ℤ, ◌-ℤ◌, ◌*ℤ◌, int_div, int_rem, unsigned_abs}
use Rattle.std.specs.Int.{int_wrap, w64, cast_signed}
use Rattle.std.specs.Int.Signed.{nat_abs-le, mag_rem}
use Rattle.std.proofs.Math.Nat.{div-le_self, mod-eq_of_lt}
use Rattle.std.proofs.lemmas.Int.{ints, quot-rem}
use Rattle.adj_word.specs.Word.{wrap, IsWord, add, sub, mul, quotient, remainder}
use Rattle.adj_word.proofs.Residues.{held, held_word, word-wrap, wrap_word, wrap-mul_left, wrap-sub_right, add_comm, sub-add}

abs-neg : (n : ℕ) → unsigned_abs (neg_ℤ (pos n)) ≡ n
abs-neg zero = refl
abs-neg (suc n) = refl

-- a quotient is no larger than its dividend
pub abs-quotient : (a b : ℤ) → unsigned_abs (int_div a b) ≤ unsigned_abs a
abs-quotient (pos a) (pos b) = div-le_self a b
abs-quotient (pos a) (negsuc b) = omega (arith, abs-neg (a / suc b), div-le_self a (suc b))
abs-quotient (negsuc a) (pos b) = omega (arith, abs-neg (suc a / b), div-le_self (suc a) b)
abs-quotient (negsuc a) (negsuc b) = div-le_self (suc a) (suc b)

-- a word is at most 2 ^ 63 from 0
pub abs-word : (z : ℤ) → IsWord z → unsigned_abs z ≤ 2 ^ 63
abs-word z h = nat_abs-le z h.sfits

-- the bits of a number from -2 ^ 63 to 2 ^ 63 are those of its residue
held_is_residue : (z : ℤ) → unsigned_abs z ≤ 2 ^ 63 → held z ≡ wrap z
unfolding int_wrap
held_is_residue (pos n) h = ap (cast_signed w64) (let below : n < 2 ^ 64 = omega arith in sym (mod-eq_of_lt below))
held_is_residue (negsuc n) h = let f : IsWord (negsuc n) = record { sfits = omega arith } in held_word (negsuc n) f ∙ sym (wrap_word (negsuc n) f)

-- what is left of a word is a word
pub word-remainder : (a b : ℤ) → IsWord a → IsWord (int_rem a b)
word-remainder a b h = record { sfits = omega (arith, mag_rem a b, h.sfits) }

-- the remainder of words is that of integers, with the sign of the dividend
pub remainder_is : (a b : ℤ) → IsWord a → remainder a b ≡ int_rem a b
remainder_is a b h =
    let left : a -ℤ int_div a b *ℤ b ≡ int_rem a b = omega (arith, ints, quot-rem a b) in
    ap (sub a) (wrap-mul_left (int_div a b) b) ∙ wrap-sub_right a (int_div a b *ℤ b) ∙ ap wrap left ∙ wrap_word _ (word-remainder a b h)

-- the quotient of words is that of integers where it is a word: everywhere but at the least word over -1
pub quotient_is : (a b : ℤ) → IsWord (int_div a b) → quotient a b ≡ int_div a b
quotient_is a b h = wrap_word (int_div a b) h

-- what the code's quotient gives
pub quotient_held : (a b r : ℤ) → IsWord a → IsWord b → r ≡ held (int_div (held a) (held b)) → held r ≡ quotient a b
quotient_held a b r f g is =
    let small : unsigned_abs (int_div a b) ≤ 2 ^ 63 = omega (arith, abs-quotient a b, abs-word a f) in
    ap held (is ∙ (λ i. held (int_div (held_word a f i) (held_word b g i))) ∙ held_is_residue (int_div a b) small) ∙ held_word (quotient a b) (word-wrap (int_div a b))

-- what the code's remainder gives
pub remainder_held : (a b r : ℤ) → IsWord a → IsWord b → r ≡ int_rem (held a) (held b) → held r ≡ remainder a b
remainder_held a b r f g is =
    ap held (is ∙ (λ i. int_rem (held_word a f i) (held_word b g i))) ∙ held_word (int_rem a b) (word-remainder a b f) ∙ sym (remainder_is a b f)

-- the quotient's multiple and the remainder make the dividend
pub quotient-remainder : (a b : ℤ) → IsWord a → add (mul (quotient a b) b) (remainder a b) ≡ a
quotient-remainder a b h = add_comm (mul (quotient a b) b) (remainder a b) ∙ sub-add a (mul (quotient a b) b) ∙ wrap_word a h
