-- Counters and the variables of loops: what stepping gives, and how often the emitted loops turn.
use Rattle.std.proofs.Common.{◌≡◌, ℕ, zero, suc, ◌-◌, ◌<◌, ◌≤◌, ◌^◌, ◌/◌, arith, rules, refl, ap, ◌∙◌, sym}
use Rattle.std.specs.Prelude.{ℤ, pos, negsuc, neg_ℤ, ◌+ℤ◌, ◌-ℤ◌, int_div}
use Rattle.std.proofs.lemmas.Int.{ints}
use borrow.Author.Differences.{up, down}
use Rattle.adj_word.specs.Word.{wrap, IsWord, add, sub, mul, at_least_zero, trip_count}
use Rattle.adj_word.proofs.Integers.{add-mul_ℤ, one-mul_ℤ}
use Rattle.adj_word.proofs.Residues.{residues, wrap_word, add-zero, zero-mul}

-- ---- the variable of a loop, which starts at a and steps by s

-- before the first turn
pub start_step : (a s : ℤ) → wrap a ≡ add a (mul (pos 0) s)
start_step a s = sym (ap (add a) (zero-mul s) ∙ add-zero a)

-- after one turn more
pub one_step : (a s : ℤ) (i : ℕ) → add (add a (mul (pos i) s)) s ≡ add a (mul (pos (suc i)) s)
one_step a s i =
    let e : pos (suc i) ≡ pos i +ℤ pos 1 = omega (arith, ints) in
    simp residues (ap wrap (rw (e, add-mul_ℤ, one-mul_ℤ) (omega (arith, ints))))

-- ---- counters

-- a natural number below 2 ^ 63 is a word
pub word-count : (n : ℕ) → n < 2 ^ 63 → IsWord (pos n)
word-count n h = search rules

pub count_up : (n : ℕ) → suc n < 2 ^ 63 → add (pos n) (pos 1) ≡ pos (suc n)
count_up n h =
    let e : pos n +ℤ pos 1 ≡ pos (suc n) = omega (arith, ints) in
    ap wrap e ∙ wrap_word (pos (suc n)) (word-count (suc n) h)

pub count_down : (n : ℕ) → n < 2 ^ 63 → add (pos (suc n)) (negsuc 0) ≡ pos n
count_down n h =
    let e : pos (suc n) +ℤ negsuc 0 ≡ pos n = omega (arith, ints) in
    ap wrap e ∙ wrap_word (pos n) (word-count n h)

-- n - 1, which is -1 for n = 0
pub last_of : (n : ℕ) → n ≤ 2 ^ 63 → sub (pos n) (pos 1) ≡ pos n -ℤ pos 1
last_of zero h = wrap_word (negsuc 0) (search rules)
last_of (suc n) h =
    let e : pos (suc n) -ℤ pos 1 ≡ pos n = omega (arith, ints) in
    ap wrap e ∙ wrap_word (pos n) (word-count n (omega arith)) ∙ sym e

-- ---- how often loops turn

-- from n - 1 down to 0: n times
pub trips_down : (n : ℕ) → trip_count (pos n -ℤ pos 1) (pos 0) (negsuc 0) ≡ n
trips_down zero = refl
trips_down (suc n) =
    let e : pos 0 -ℤ (pos (suc n) -ℤ pos 1) +ℤ negsuc 0 ≡ negsuc n = omega (arith, ints) in
    let one : suc n / 1 ≡ suc n = omega arith in
    ap (λ z. at_least_zero (int_div z (negsuc 0))) e ∙ one

quotient-one : (z : ℤ) → int_div z (pos 1) ≡ z
quotient-one (pos n) = ap pos (let e : n / 1 ≡ n = omega arith in e)
quotient-one (negsuc n) = ap (λ m. neg_ℤ (pos m)) (let e : suc n / 1 ≡ suc n = omega arith in e)

cut-below : (z : ℤ) → at_least_zero z ≡ up z - down z
cut-below (pos n) = omega arith
cut-below (negsuc n) = omega arith

-- from a up to b - 1: b - a times, and not at all where b is less
pub trips_up : (a b : ℕ) → trip_count (pos a) (pos b -ℤ pos 1) (pos 1) ≡ b - a
trips_up a b =
    let e : pos b -ℤ pos 1 -ℤ pos a +ℤ pos 1 ≡ pos b -ℤ pos a = omega (arith, ints) in
    ap at_least_zero (quotient-one _ ∙ e) ∙ cut-below (pos b -ℤ pos a) ∙ omega (arith, ints)

-- from 1 to n: n times
pub trips_through : (n : ℕ) → trip_count (pos 1) (pos n) (pos 1) ≡ n
trips_through n =
    let e : pos n -ℤ pos 1 +ℤ pos 1 ≡ pos n = omega (arith, ints) in
    ap at_least_zero (quotient-one _ ∙ e)
