-- Words are a commutative ring under `add`, `mul` and `negated`.
-- A law that gives back an argument has two forms: for every integer it gives its residue, and for a word the word itself.
use Rattle.std.proofs.Common.{◌≡◌, arith, rules, ap, ◌∙◌, sym}
use Rattle.std.specs.Prelude.{ℤ, pos, neg_ℤ, ◌+ℤ◌, ◌-ℤ◌}
use Rattle.std.specs.Int.{w64, cast_signed, cast_unsigned}
use Rattle.std.proofs.lemmas.Int.{ints, to_z-of_z, int_wrap_fits, SFits-int_wrap, int_wrap-add_left, int_wrap-add_right, int_wrap-sub_right, int_wrap-mul_left, int_wrap-mul_right}
use lib.IntN.{*ℤ_comm, +ℤ_comm, +ℤ_idl, +ℤ_idr}
use Rattle.adj_word.specs.Word.{wrap, IsWord, add, sub, mul, negated}
use Rattle.adj_word.proofs.Integers.{mul-add_ℤ, add-mul_ℤ, mul_assoc_ℤ, neg-mul_ℤ, mul-neg_ℤ, mul-sub_ℤ, sub-mul_ℤ, one-mul_ℤ, mul-one_ℤ, zero-mul_ℤ, mul-zero_ℤ}

-- ---- words

-- a residue is a word
pub word-wrap : (z : ℤ) → IsWord (wrap z)
word-wrap z = SFits-int_wrap w64 z

pub word-zero : IsWord (pos 0)
word-zero = search rules

pub word-one : IsWord (pos 1)
word-one = search rules

-- the residue of a word is the word
pub wrap_word : (z : ℤ) → IsWord z → wrap z ≡ z
wrap_word z h = int_wrap_fits w64 z h

pub wrap-zero : wrap (pos 0) ≡ pos 0
wrap-zero = wrap_word (pos 0) word-zero

pub wrap-one : wrap (pos 1) ≡ pos 1
wrap-one = wrap_word (pos 1) word-one

-- and so is a residue's
pub wrap-wrap : (z : ℤ) → wrap (wrap z) ≡ wrap z
wrap-wrap z = wrap_word (wrap z) (word-wrap z)

-- ---- the bits of words

-- a number as the code holds it in 64 bits
abbrev pub held : ℤ → ℤ
held z = cast_signed w64 (cast_unsigned w64 z)

-- a word is held as itself
pub held_word : (z : ℤ) → IsWord z → held z ≡ z
held_word z h = to_z-of_z w64 z h

-- ---- residues of the arguments may be taken or left

pub wrap-add_left : (a b : ℤ) → add (wrap a) b ≡ add a b
wrap-add_left a b = int_wrap-add_left w64 a b

pub wrap-add_right : (a b : ℤ) → add a (wrap b) ≡ add a b
wrap-add_right a b = int_wrap-add_right w64 a b

pub wrap-sub_left : (a b : ℤ) → sub (wrap a) b ≡ sub a b
wrap-sub_left a b = int_wrap-add_left w64 a (neg_ℤ b)

pub wrap-sub_right : (a b : ℤ) → sub a (wrap b) ≡ sub a b
wrap-sub_right a b = int_wrap-sub_right w64 a b

pub wrap-mul_left : (a b : ℤ) → mul (wrap a) b ≡ mul a b
wrap-mul_left a b = int_wrap-mul_left w64 a b

pub wrap-mul_right : (a b : ℤ) → mul a (wrap b) ≡ mul a b
wrap-mul_right a b = int_wrap-mul_right w64 a b

pub wrap-negated : (a : ℤ) → negated (wrap a) ≡ negated a
wrap-negated a =
    let from_zero : (x : ℤ) → neg_ℤ x ≡ pos 0 -ℤ x = λ x. omega (arith, ints) in
    ap wrap (from_zero (wrap a)) ∙ wrap-sub_right (pos 0) a ∙ sym (ap wrap (from_zero a))

-- all of them, for `simp`: an equation of words becomes `wrap` of an equation of integers, for `ap wrap (omega (arith, ints))`
pub ruleset residues = (wrap-add_left, wrap-add_right, wrap-sub_left, wrap-sub_right, wrap-mul_left, wrap-mul_right, wrap-negated, wrap-wrap)

-- ---- sums

pub add_comm : (a b : ℤ) → add a b ≡ add b a
add_comm a b = ap wrap (+ℤ_comm a b)

pub add_assoc : (a b c : ℤ) → add (add a b) c ≡ add a (add b c)
add_assoc a b c = simp residues (ap wrap (omega (arith, ints)))

pub add-zero : (a : ℤ) → add a (pos 0) ≡ wrap a
add-zero a = ap wrap (+ℤ_idr a)

pub zero-add : (a : ℤ) → add (pos 0) a ≡ wrap a
zero-add a = ap wrap (+ℤ_idl a)

pub add-zero_word : (a : ℤ) → IsWord a → add a (pos 0) ≡ a
add-zero_word a h = add-zero a ∙ wrap_word a h

pub zero-add_word : (a : ℤ) → IsWord a → add (pos 0) a ≡ a
zero-add_word a h = zero-add a ∙ wrap_word a h

pub add-negated : (a : ℤ) → add a (negated a) ≡ pos 0
add-negated a = simp residues (ap wrap (let e : a +ℤ neg_ℤ a ≡ pos 0 = omega (arith, ints) in e) ∙ wrap-zero)

pub negated-add : (a b : ℤ) → negated (add a b) ≡ add (negated a) (negated b)
negated-add a b = simp residues (ap wrap (omega (arith, ints)))

pub negated-negated : (a : ℤ) → negated (negated a) ≡ wrap a
negated-negated a = simp residues (ap wrap (omega (arith, ints)))

pub negated-negated_word : (a : ℤ) → IsWord a → negated (negated a) ≡ a
negated-negated_word a h = negated-negated a ∙ wrap_word a h

pub negated-zero : negated (pos 0) ≡ pos 0
negated-zero = wrap-zero

-- two sums side by side exchange their inner members
pub add-add : (a b c d : ℤ) → add (add a b) (add c d) ≡ add (add a c) (add b d)
add-add a b c d = simp residues (ap wrap (omega (arith, ints)))

-- the second member of a sum of three comes first
pub add_left_comm : (a b c : ℤ) → add a (add b c) ≡ add b (add a c)
add_left_comm a b c = simp residues (ap wrap (omega (arith, ints)))

-- what is added may be taken away again
pub add_cancel : (p a b : ℤ) → add p a ≡ add p b → wrap a ≡ wrap b
add_cancel p a b h = back a ∙ ap (add (negated p)) h ∙ sym (back b)
  where
    back : (x : ℤ) → wrap x ≡ add (negated p) (add p x)
    back x = simp residues (ap wrap (omega (arith, ints)))

-- ---- differences

pub sub_is : (a b : ℤ) → sub a b ≡ add a (negated b)
sub_is a b = sym (wrap-add_right a (neg_ℤ b))

pub sub-self : (a : ℤ) → sub a a ≡ pos 0
sub-self a = ap wrap (let e : a -ℤ a ≡ pos 0 = omega (arith, ints) in e) ∙ wrap-zero

pub sub-zero : (a : ℤ) → sub a (pos 0) ≡ wrap a
sub-zero a = ap wrap (omega (arith, ints))

pub zero-sub : (a : ℤ) → sub (pos 0) a ≡ negated a
zero-sub a = ap wrap (omega (arith, ints))

pub negated-sub : (a b : ℤ) → negated (sub a b) ≡ sub b a
negated-sub a b = simp residues (ap wrap (omega (arith, ints)))

pub sub-add : (a b : ℤ) → add (sub a b) b ≡ wrap a
sub-add a b = simp residues (ap wrap (omega (arith, ints)))

pub add-sub : (a b : ℤ) → sub (add a b) b ≡ wrap a
add-sub a b = simp residues (ap wrap (omega (arith, ints)))

-- ---- products

pub mul_comm : (a b : ℤ) → mul a b ≡ mul b a
mul_comm a b = ap wrap (*ℤ_comm a b)

pub mul_assoc : (a b c : ℤ) → mul (mul a b) c ≡ mul a (mul b c)
mul_assoc a b c = simp residues (ap wrap (mul_assoc_ℤ a b c))

pub mul_left_comm : (a b c : ℤ) → mul a (mul b c) ≡ mul b (mul a c)
mul_left_comm a b c = sym (mul_assoc a b c) ∙ ap (λ z. mul z c) (mul_comm a b) ∙ mul_assoc b a c

pub mul-one : (a : ℤ) → mul a (pos 1) ≡ wrap a
mul-one a = ap wrap (mul-one_ℤ a)

pub one-mul : (a : ℤ) → mul (pos 1) a ≡ wrap a
one-mul a = ap wrap (one-mul_ℤ a)

pub mul-one_word : (a : ℤ) → IsWord a → mul a (pos 1) ≡ a
mul-one_word a h = mul-one a ∙ wrap_word a h

pub one-mul_word : (a : ℤ) → IsWord a → mul (pos 1) a ≡ a
one-mul_word a h = one-mul a ∙ wrap_word a h

pub mul-zero : (a : ℤ) → mul a (pos 0) ≡ pos 0
mul-zero a = ap wrap (mul-zero_ℤ a) ∙ wrap-zero

pub zero-mul : (a : ℤ) → mul (pos 0) a ≡ pos 0
zero-mul a = ap wrap (zero-mul_ℤ a) ∙ wrap-zero

pub mul-add : (a b c : ℤ) → mul a (add b c) ≡ add (mul a b) (mul a c)
mul-add a b c = simp residues (ap wrap (mul-add_ℤ a b c))

pub add-mul : (a b c : ℤ) → mul (add a b) c ≡ add (mul a c) (mul b c)
add-mul a b c = simp residues (ap wrap (add-mul_ℤ a b c))

pub mul-sub : (a b c : ℤ) → mul a (sub b c) ≡ sub (mul a b) (mul a c)
mul-sub a b c = simp residues (ap wrap (mul-sub_ℤ a b c))

pub sub-mul : (a b c : ℤ) → mul (sub a b) c ≡ sub (mul a c) (mul b c)
sub-mul a b c = simp residues (ap wrap (sub-mul_ℤ a b c))

pub mul-negated : (a b : ℤ) → mul a (negated b) ≡ negated (mul a b)
mul-negated a b = simp residues (ap wrap (mul-neg_ℤ a b))

pub negated-mul : (a b : ℤ) → mul (negated a) b ≡ negated (mul a b)
negated-mul a b = simp residues (ap wrap (neg-mul_ℤ a b))

-- a sign may change its factor
pub negated-mul_swap : (a b : ℤ) → mul (negated a) b ≡ mul a (negated b)
negated-mul_swap a b = negated-mul a b ∙ sym (mul-negated a b)
