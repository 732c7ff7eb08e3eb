-- Words as rows of bits.
use Rattle.std.specs.Prelude.{ℕ, ◌+◌, ◌*◌, List}
use Rattle.adj_tree.specs.Bits.{bit}

-- the bit of a column in the row of a number, where each row has so many words
abbrev pub column : List ℕ → ℕ → ℕ → ℕ → ℕ
column ws words row j = bit ws (row * words * 64 + j)
