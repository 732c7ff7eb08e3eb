-- The guard of an exponent in the adjoint of a power: it is an exponent, and gives the derivative, which is 0 for the exponent 0.
use Rattle.std.proofs.Common.{◌≡◌, ◌≤◌, ℕ, zero, suc, Bool, true, false, refl, sym, ap, ◌∙◌, arith, if◌then◌else◌}
use Rattle.std.specs.Prelude.{ℤ, pos, negsuc, ◌-ℤ◌, ◌&&◌, nat_le, int_lt, Ok, Some, None}
use Rattle.std.proofs.lemmas.Int.{ints}
use Rattle.adj_word.specs.Word.{add, sub, mul, power, at_least_zero}
use Rattle.adj_word.proofs.Residues.{mul-zero, zero-mul}
use Rattle.adj_word.proofs.Counting.{last_of}
use Rattle.adj_word.proofs.Transposes.{back_power}
use Rattle.def_meaning.specs.Trap.{power_trap, or_trap}
use Rattle.def_meaning.specs.Numbers.{power_tangent}
use Rattle.def_meaning.specs.Value.{exponent_of}
use Rattle.law_sweep.proofs.Terms.{IsExponent}

-- MAX(z-1,0)
abbrev pub guard : ℤ → ℤ
guard z = if int_lt (sub z (pos 1)) (pos 0) then pos 0 else sub z (pos 1)

pub record Guarded (z : ℤ) : Type 0 where
  pub less : ℕ
  pub is : exponent_of (guard z) ≡ Ok less
  -- what is added to a shadow by it is the transposed tangent of the power
  pub shares : (p w u t : ℤ) → add p (mul (mul (mul w z) (power u less)) t) ≡ add p (mul w (power_tangent u t (at_least_zero z)))

-- an exponent above 0 has one below it
exponent_before : (m : ℕ) → IsExponent (pos (suc m)) → m ≤ 4294967294
exponent_before m h = go (nat_le 0 (suc m) && nat_le (suc m) 4294967295) refl h
  where
    go : (b : Bool) → (nat_le 0 (suc m) && nat_le (suc m) 4294967295) ≡ b → or_trap power_trap (if b then Some (suc m) else None) ≡ Ok (suc m) → m ≤ 4294967294
    go true e h = below m e
      where
        below : (m : ℕ) → (nat_le 0 (suc m) && nat_le (suc m) 4294967295) ≡ true → m ≤ 4294967294
        below m e = grind arith
    go false e h = cc

exponent_small : (m : ℕ) → m ≤ 4294967294 → exponent_of (pos m) ≡ Ok m
exponent_small m h =
    let low : nat_le 0 m ≡ true = grind arith in
    let high : nat_le m 4294967295 ≡ true = grind arith in
    rw (low, high) refl

-- one less than a number above 0
one_less : (m : ℕ) → m ≤ 4294967294 → sub (pos (suc m)) (pos 1) ≡ pos m
one_less m h = let e : pos (suc m) -ℤ pos 1 ≡ pos m = omega (arith, ints) in last_of (suc m) (omega arith) ∙ e

not_below : (m : ℕ) → int_lt (pos m) (pos 0) ≡ false
not_below m = grind arith

pub guarded : (z : ℤ) → IsExponent z → Guarded z
guarded (pos zero) h = record {
  less = 0;
  is = ap (λ v. exponent_of (if int_lt v (pos 0) then pos 0 else v)) (last_of 0 (omega arith));
  shares = λ p w u t.
      let a : mul (mul (mul w (pos 0)) (power u 0)) t ≡ pos 0 = ap (λ v. mul (mul v (power u 0)) t) (mul-zero w) ∙ ap (λ v. mul v t) (zero-mul (power u 0)) ∙ zero-mul t in
      ap (add p) (a ∙ sym (mul-zero w));
}
guarded (pos (suc m)) h =
    let le = exponent_before m h in
    let e = one_less m le in
    let g : guard (pos (suc m)) ≡ pos m = ap (λ v. if int_lt v (pos 0) then pos 0 else v) e ∙ ap (λ b. if b then pos 0 else pos m) (not_below m) in
    record {
      less = m;
      is = ap exponent_of g ∙ exponent_small m le;
      shares = λ p w u t. back_power p w (pos (suc m)) u t m;
    }
guarded (negsuc m) h = cc
