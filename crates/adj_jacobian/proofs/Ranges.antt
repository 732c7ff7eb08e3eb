-- Numbers from one on, and those of them that a test lets through.
use Rattle.std.proofs.Common.{◌≡◌, ℕ, zero, suc, ◌+◌, ◌-◌, ◌*◌, ◌/◌, ◌%◌, ◌^◌, ◌<◌, ◌≤◌, min, Bool, true, false, List, [], ◌∷◌, ◌++◌, filter, cond, length, get_or, bit_and, refl, sym, ap, ap₂, ◌∙◌, eq-eqb, arith}
use Rattle.std.specs.Prelude.{◌==◌, ◌&&◌, if◌then◌else◌}
use Rattle.std.specs.Int.{bit_at}
use Rattle.std.proofs.lemmas.List.Elements.{filter-append}
use Rattle.std.proofs.lemmas.Nat.Bits.{bit_at-zero, shr_and_one}
use Rattle.def_jacobian.specs.Recovered.{from}
use Rattle.adj_jacobian_block.specs.Blocks.{columns_of}
use Rattle.adj_jacobian.specs.Parts.{bits_from, columns_from}

pub length_from : (i n : ℕ) → length (from i n) ≡ n
length_from i zero = refl
length_from i (suc n) = ap suc (length_from (suc i) n)

-- a range in two parts
pub from_parts : (i a m : ℕ) → from i (a + m) ≡ from i a ++ from (i + a) m
from_parts i zero m = ap₂ from (let e : i ≡ i + 0 = omega arith in e) (let e : 0 + m ≡ m = omega arith in e)
from_parts i (suc a) m =
    ap (from i) (let e : suc a + m ≡ suc (a + m) = omega arith in e)
    ∙ ap (λ zs. i ∷ zs) (from_parts (suc i) a m ∙ ap (λ j. from (suc i) a ++ from j m) (let e : suc i + a ≡ i + suc a = omega arith in e))

-- tests that agree on a range let the same numbers through
pub filter_alike : (f g : ℕ → Bool) (i n : ℕ) → ((c : ℕ) → i ≤ c → c < i + n → f c ≡ g c) → filter f (from i n) ≡ filter g (from i n)
filter_alike f g i zero h = refl
filter_alike f g i (suc n) h =
    ap₂ (λ z zs. cond z (i ∷ zs) zs) (h i (omega arith) (omega arith))
    (filter_alike f g (suc i) n (λ c le lt. h c (let a : i ≤ c = omega (arith, le) in a) (let b : c < i + suc n = omega (arith, lt) in b)))

filter_none : (f : ℕ → Bool) (zs : List ℕ) → ((c : ℕ) → f c ≡ false) → filter f zs ≡ []
filter_none f [] h = refl
filter_none f (z ∷ zs) h = ap (λ y. cond y (z ∷ filter f zs) (filter f zs)) (h z) ∙ filter_none f zs h

-- a range let through in two parts
pub filter_parts : (f : ℕ → Bool) (i a m : ℕ) → filter f (from i (a + m)) ≡ filter f (from i a) ++ filter f (from (i + a) m)
filter_parts f i a m = ap (filter f) (from_parts i a m) ∙ filter-append f (from i a) (from (i + a) m)

-- ---- the bits of a word

pub no_bits : (first count : ℕ) → bits_from 0 first count ≡ []
no_bits first count = filter_none (λ c. bit_at 0 (c - first) == 1) (from first count) (λ c. ap (λ z. z == 1) (bit_at-zero (c - first)))

-- one bit more
pub bits_more : (word first i : ℕ) → bits_from word first (i + 1) ≡ bits_from word first i ++ (if bit_and (word / 2 ^ i) 1 == 1 then (first + i) ∷ [] else [])
bits_more word first i =
    filter_parts (λ c. bit_at word (c - first) == 1) first i 1
    ∙ ap (λ z. bits_from word first i ++ (if z == 1 then (first + i) ∷ [] else [])) (ap (bit_at word) (let e : first + i - first ≡ i = omega arith in e) ∙ sym (shr_and_one word i))

-- ---- the columns of a mask

pub and_true : (b c : Bool) → c ≡ true → (b && c) ≡ b
and_true true c e = e
and_true false c e = refl

-- the bits of a word of a mask are its columns there
word_columns : (k w : ℕ) (mask : List ℕ) (count : ℕ) → count ≤ 64 → w < 4 →
    bits_from (get_or mask w 0) (256 * k + 64 * w) count ≡ columns_from k mask (256 * k + 64 * w) count
word_columns k w mask count h lt = filter_alike (λ c. bit_at (get_or mask w 0) (c - (256 * k + 64 * w)) == 1) (columns_of k mask) (256 * k + 64 * w) count told
  where
    told : (c : ℕ) → 256 * k + 64 * w ≤ c → c < 256 * k + 64 * w + count → (bit_at (get_or mask w 0) (c - (256 * k + 64 * w)) == 1) ≡ columns_of k mask c
    told c le less =
        let block : c / 256 ≡ k = omega (arith, le, less, h, lt) in
        let word : c % 256 / 64 ≡ w = omega (arith, le, less, h, lt, block) in
        let place : c % 256 % 64 ≡ c - (256 * k + 64 * w) = omega (arith, le, less, h, lt, block, word) in
        sym (ap₂ (λ u v. u && v) (eq-eqb (c / 256) k block) (ap₂ (λ i j. bit_at (get_or mask i 0) j == 1) word place))

-- the word at a place of a walk over a mask, where columns are left
pub word_part : (k total w : ℕ) (mask : List ℕ) (first count : ℕ) → first ≡ 256 * k + min (total - 256 * k) (64 * w) → count ≡ min (total - first) 64 → w < 4 → bits_from (get_or mask w 0) first count ≡ columns_from k mask first count
word_part k total w mask first zero at many lt = refl
word_part k total w mask first (suc n) at many lt =
    let stands : first ≡ 256 * k + 64 * w = omega (arith, at, many) in
    let within : suc n ≤ 64 = omega (arith, many) in
    ap (λ f. bits_from (get_or mask w 0) f (suc n)) stands ∙ word_columns k w mask (suc n) within lt ∙ ap (λ f. columns_from k mask f (suc n)) (sym stands)

-- the columns before and in a part
pub columns_more : (k : ℕ) (mask : List ℕ) (a first count : ℕ) → a ≤ first → columns_from k mask a (first - a) ++ columns_from k mask first count ≡ columns_from k mask a (first + count - a)
columns_more k mask a first count h =
    ap (λ f. columns_from k mask a (first - a) ++ columns_from k mask f count) (let e : first ≡ a + (first - a) = omega (arith, h) in e)
    ∙ sym (filter_parts (columns_of k mask) a (first - a) count)
    ∙ ap (columns_from k mask a) (let e : first - a + count ≡ first + count - a = omega (arith, h) in e)
