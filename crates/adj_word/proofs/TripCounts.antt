-- How often loops turn.
use Rattle.std.proofs.Common.{◌≡◌, ◌≢◌, ℕ, ◌<◌, ◌^◌, arith, refl, ap, ◌∙◌, sym, subst}
use Rattle.std.specs.Prelude.{ℤ, pos, negsuc, ◌+ℤ◌, ◌-ℤ◌, ◌≤ℤ◌, int_div, unsigned_abs, Result, Ok, Err, OkIff}
use Rattle.std.specs.Result.{result_unwrap_or}
use Rattle.std.specs.Int.{w128, cast_signed, cast_unsigned}
use Rattle.std.specs.Int.RustNames.{FitsSigned}
use Rattle.std.proofs.lemmas.Int.{ints, to_z-of_z, fits_signed_from_abs}
use Rattle.adj_word.specs.Word.{IsWord, at_least_zero, trip_count}
use Rattle.adj_word.proofs.Residues.{held}
use Rattle.adj_word.proofs.Quotients.{abs-quotient}

-- ---- the code's count

-- the conversion to an unsigned number, with 0 in place of a failure, cuts below at 0
at_least_zero_is : {E : Type 0} (z : ℤ) (r : Result ℕ E) → OkIff r (pos 0 ≤ℤ z) (unsigned_abs z) → result_unwrap_or r 0 ≡ at_least_zero z
at_least_zero_is (pos n) (Ok m) h = h.1
at_least_zero_is (negsuc n) (Ok m) h = absurd h.0.le
at_least_zero_is (pos n) (Err e) h = absurd (h (let e : pos 0 ≤ℤ pos n = omega (arith, ints) in e))
at_least_zero_is (negsuc n) (Err e) h = refl

-- a number as the code holds it in 128 bits
abbrev wide : ℤ → ℤ
wide z = cast_signed w128 (cast_unsigned w128 z)

-- what is divided to count the turns, as the code holds it
abbrev dividend : ℤ → ℤ → ℤ → ℤ
dividend x y z = wide (wide (wide y -ℤ wide x) +ℤ wide z)

module _ (m1 m2 m3 x y z : ℤ) (f1 : IsWord m1) (f2 : IsWord m2) (f3 : IsWord m3) (is1 : x ≡ held m1) (is2 : y ≡ held m2) (is3 : z ≡ held m3) where
  dividend_is : dividend x y z ≡ m2 -ℤ m1 +ℤ m3
  dividend_is = omega (arith, ints)

  divisor_is : wide z ≡ m3
  divisor_is = omega (arith, ints)

  fits_wide : FitsSigned w128 (int_div (m2 -ℤ m1 +ℤ m3) m3)
  fits_wide =
      let small : unsigned_abs (m2 -ℤ m1 +ℤ m3) < 2 ^ 127 = omega (arith, ints, f1, f2, f3) in
      let less : unsigned_abs (int_div (m2 -ℤ m1 +ℤ m3) m3) < 2 ^ 127 = omega (arith, abs-quotient (m2 -ℤ m1 +ℤ m3) m3) in
      fits_signed_from_abs w128 _ less

  -- the code may divide
  pub trips_divide : (m3 ≢ pos 0) → (0 < cast_unsigned w128 z) × FitsSigned w128 (int_div (dividend x y z) (wide z))
  trips_divide nz = (grind (arith, ints), subst (FitsSigned w128) (λ i. int_div (sym dividend_is i) (sym divisor_is i)) fits_wide)

  -- what the code's count gives
  pub trips_held : {E : Type 0} (r : Result ℕ E) → (let turns = wide (int_div (dividend x y z) (wide z)) in OkIff r (pos 0 ≤ℤ turns) (unsigned_abs turns)) → result_unwrap_or r 0 ≡ trip_count m1 m2 m3
  trips_held r h =
      let turns : wide (int_div (dividend x y z) (wide z)) ≡ int_div (m2 -ℤ m1 +ℤ m3) m3 = (λ i. wide (int_div (dividend_is i) (divisor_is i))) ∙ to_z-of_z w128 _ fits_wide in
      at_least_zero_is _ r h ∙ ap at_least_zero turns
