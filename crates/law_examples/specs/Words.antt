-- Words: arithmetic at its edges.
use Rattle.std.specs.Prelude.{◌≡◌, ℕ, ℤ, pos, negsuc, [], ◌∷◌, ◌==◌, ◌+◌, true, false}
use Rattle.adj_word.specs.Word.{wrap, add, sub, mul, negated, raised, power, quotient, remainder, at_least_zero, trip_count}
use Rattle.adj_word.specs.Dot.{sum_of_products, dot, added, scaled}
use Rattle.adj_word.specs.Pairing.{pairing, put, stands_in}

abbrev pub least : ℤ
least = negsuc 9223372036854775807

abbrev pub greatest : ℤ
greatest = pos 9223372036854775807

abbrev pub Wrapped : Type 0
Wrapped =
    (wrap (pos 9223372036854775808) ≡ least) × (wrap (pos 18446744073709551616) ≡ pos 0) × (wrap (negsuc 9223372036854775808) ≡ greatest)
    × (add greatest (pos 1) ≡ least) × (sub least (pos 1) ≡ greatest) × (sub (pos 3) (pos 5) ≡ negsuc 1) × (mul greatest (pos 2) ≡ negsuc 1) × (negated least ≡ least) × (negated (pos 3) ≡ negsuc 2)
    × (raised (negsuc 1) 0 ≡ pos 1) × (raised (negsuc 1) 3 ≡ negsuc 7) × (power (pos 2) 63 ≡ least) × (power (pos 2) 64 ≡ pos 0) × (power (pos 0) 0 ≡ pos 1)

-- a quotient is cut towards 0, and what it leaves has the dividend's sign
abbrev pub Quotients : Type 0
Quotients =
    (quotient (pos 7) (pos 2) ≡ pos 3) × (quotient (negsuc 6) (pos 2) ≡ negsuc 2) × (quotient (pos 7) (negsuc 1) ≡ negsuc 2) × (quotient (negsuc 6) (negsuc 1) ≡ pos 3) × (quotient least (negsuc 0) ≡ least)
    × (remainder (pos 7) (pos 2) ≡ pos 1) × (remainder (negsuc 6) (pos 2) ≡ negsuc 0) × (remainder (pos 7) (negsuc 1) ≡ pos 1) × (remainder least (negsuc 0) ≡ pos 0)

abbrev pub TripCounts : Type 0
TripCounts =
    (trip_count (pos 1) (pos 10) (pos 1) ≡ 10) × (trip_count (pos 1) (pos 10) (pos 3) ≡ 4) × (trip_count (pos 1) (pos 0) (pos 1) ≡ 0) × (trip_count (pos 5) (pos 1) (pos 1) ≡ 0)
    × (trip_count (pos 5) (pos 1) (negsuc 1) ≡ 3) × (trip_count (pos 1) (pos 5) (negsuc 0) ≡ 0) × (trip_count least greatest (pos 1) ≡ 18446744073709551616)
    × (at_least_zero (pos 3) ≡ 3) × (at_least_zero (negsuc 0) ≡ 0) × (at_least_zero (negsuc 5) ≡ 0)

abbrev pub doubled : ℕ → ℤ
doubled k = pos (k + k)

abbrev pub Products : Type 0
Products =
    (sum_of_products (pos 2 ∷ pos 3 ∷ []) (pos 5 ∷ pos 7 ∷ []) ≡ pos 31) × (sum_of_products (pos 2 ∷ []) (pos 5 ∷ pos 7 ∷ []) ≡ pos 10) × (sum_of_products (pos 2 ∷ pos 3 ∷ []) (pos 5 ∷ []) ≡ pos 10)
    × (dot (greatest ∷ []) (pos 2 ∷ []) ≡ negsuc 1)
    × (added (pos 2 ∷ pos 3 ∷ []) (pos 5 ∷ []) ≡ pos 7 ∷ pos 3 ∷ []) × (added (greatest ∷ []) (pos 1 ∷ pos 4 ∷ []) ≡ least ∷ pos 4 ∷ [])
    × (scaled (pos 2) (pos 3 ∷ greatest ∷ []) ≡ pos 6 ∷ negsuc 1 ∷ [])
    × (pairing (1 ∷ 2 ∷ []) doubled (λ k. pos k) ≡ pos 10) × (pairing [] doubled doubled ≡ pos 0)
    × (put (λ j k. j == k) doubled 2 (pos 9) 2 ≡ pos 9) × (put (λ j k. j == k) doubled 2 (pos 9) 3 ≡ pos 6)
    × (stands_in (λ j k. j == k) 2 (1 ∷ 2 ∷ []) ≡ true) × (stands_in (λ j k. j == k) 1 (1 ∷ 2 ∷ []) ≡ true) × (stands_in (λ j k. j == k) 3 (1 ∷ 2 ∷ []) ≡ false)
