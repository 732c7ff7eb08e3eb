-- Fresh names: names that nothing else has.
use Rattle.std.specs.Prelude.{ℕ, zero, suc, ◌+◌, List, [], ◌∷◌, ◌++◌, map, length, if◌then◌else◌, codes}
use Rattle.std.specs.Int.Digits.{digits_of}
pub use Rattle.def_meaning.specs.Apart.{has_name}

-- the decimal digits of n, as many as there are
abbrev pub digits : ℕ → List ℕ
digits zero = codes "0"
digits (suc n) = map (λ d. 48 + d) (digits_of 10 (suc n))

-- b, `b_1`, `b_2` and on
abbrev pub candidate : List ℕ → ℕ → List ℕ
candidate b zero = b
candidate b (suc i) = b ++ (codes "_" ++ digits (suc i))

-- the first of the candidates from the i-th on that isn't taken; after `tries` of them the next one
abbrev pub first_free : ℕ → ℕ → List ℕ → List (List ℕ) → List ℕ
first_free zero i b taken = candidate b i
first_free (suc tries) i b taken = if has_name (candidate b i) taken then first_free tries (suc i) b taken else candidate b i

-- b, or the first of `b_1`, `b_2` and on that isn't taken
abbrev pub fresh : List ℕ → List (List ℕ) → List ℕ
fresh b taken = first_free (length taken) 0 b taken
