-- What the transposition of each operation needs: a share w of the result's adjoint, times the tangent of the result,
-- is the sum of the operands' adjoints times their tangents. p is what was there before.
use Rattle.std.proofs.Common.{◌≡◌, ℕ, arith, ap, ◌∙◌}
use Rattle.std.specs.Prelude.{ℤ, ◌*ℤ◌}
use Rattle.std.proofs.lemmas.Int.{ints}
use lib.IntN.{*ℤ_comm}
use Rattle.adj_word.specs.Word.{wrap, add, sub, mul, negated, power}
use Rattle.adj_word.proofs.Integers.{mul-add_ℤ, add-mul_ℤ, mul_assoc_ℤ, neg-mul_ℤ, mul-sub_ℤ}
use Rattle.adj_word.proofs.Residues.{residues, mul_assoc, negated-mul_swap}

-- the operands of a sum
pub back_plus : (p w x y : ℤ) → add (add p (mul w x)) (mul w y) ≡ add p (mul w (add x y))
back_plus p w x y = simp residues (ap wrap (rw mul-add_ℤ (omega (arith, ints))))

-- of a difference
pub back_minus : (p w x y : ℤ) → add (add p (mul w x)) (mul (negated w) y) ≡ add p (mul w (sub x y))
back_minus p w x y = simp residues (ap wrap (rw (mul-sub_ℤ, neg-mul_ℤ) (omega (arith, ints))))

-- of a negation
pub back_neg : (p w x : ℤ) → add p (mul (negated w) x) ≡ add p (mul w (negated x))
back_neg p w x = ap (add p) (negated-mul_swap w x)

-- of a product, whose factors have the values u and v
pub back_times : (p w u v x y : ℤ) → add (add p (mul (mul w v) x)) (mul (mul w u) y) ≡ add p (mul w (add (mul x v) (mul u y)))
back_times p w u v x y =
    simp residues (ap wrap (rw mul-add_ℤ (omega (arith, ints, mul_assoc_ℤ w v x, ap (λ z. w *ℤ z) (*ℤ_comm v x), mul_assoc_ℤ w u y))))

-- of a power with the exponent n, whose base has the value u, with m the exponent less 1
pub back_power : (p w n u x : ℤ) (m : ℕ) → add p (mul (mul (mul w n) (power u m)) x) ≡ add p (mul w (mul (mul n (power u m)) x))
back_power p w n u x m = ap (add p) (ap (λ z. mul z x) (mul_assoc w n (power u m)) ∙ mul_assoc w (mul n (power u m)) x)

-- one factor of a sum of products grows by w
pub more_of_one : (a w d r : ℤ) → add (mul (add a w) d) r ≡ add (add (mul a d) r) (mul w d)
more_of_one a w d r = simp residues (ap wrap (rw add-mul_ℤ (omega (arith, ints))))
