-- Sums over steps.
use Rattle.std.proofs.Common.{◌≡◌, ◌≤◌, ℕ, zero, suc, ◌+◌, ◌*◌, sym, ap, ◌∙◌, arith, mul-add}
use Rattle.std.proofs.Math.Nat.{mul-le-mul_left, mul_comm}
use Rattle.law_cost.specs.Sums.{sum_of}

-- those of some steps and of the steps after them
pub sum_join : (f : ℕ → ℕ) (c lo n : ℕ) → sum_of f lo (c + n) ≡ sum_of f lo c + sum_of f (lo + c) n
sum_join f zero lo n = let e : lo + 0 ≡ lo = omega arith in let g : 0 + n ≡ n = omega arith in let h : 0 + sum_of f lo n ≡ sum_of f lo n = omega arith in ap (λ z. sum_of f lo z) g ∙ sym h ∙ ap (λ z. 0 + sum_of f z n) (sym e)
sum_join f (suc c) lo n =
    let e : suc c + n ≡ suc (c + n) = omega arith in
    let g : suc lo + c ≡ lo + suc c = omega arith in
    let r = sum_join f c (suc lo) n in
    let s = ap (λ z. sum_of f z n) g in
    ap (λ z. sum_of f lo z) e ∙ omega (arith, r, s)

pub times_sum : (k x y : ℕ) → k * (x + y) ≡ k * x + k * y
times_sum k x y = mul-add k x y

pub times_more : (a b x : ℕ) → a ≤ b → a * x ≤ b * x
times_more a b x h = let l = mul-le-mul_left x h in let e : x * a ≡ a * x = mul_comm x a in let f : x * b ≡ b * x = mul_comm x b in omega (arith, l, e, f)

pub one_more : (q x : ℕ) → suc q * x ≡ x + q * x
one_more q x = omega arith
