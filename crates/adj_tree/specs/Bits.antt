-- Words as rows of bits.
use Rattle.std.specs.Prelude.{ℕ, ◌*◌, ◌/◌, ◌%◌, ◌==◌, List, Bool, map, length, get_or}
use Rattle.std.specs.List.{range_with_len}
use Rattle.std.specs.Int.{bit_at}

-- the bit of a number in some words, 0 past their end
abbrev pub bit : List ℕ → ℕ → ℕ
bit ws n = bit_at (get_or ws (n / 64) 0) (n % 64)

-- the truth values of all bits of some words
unfoldable pub values_in : List ℕ → List Bool
values_in ws = map (λ n. bit ws n == 1) (range_with_len 0 (64 * length ws))
