-- Rows of a pattern, found block by block.
use Rattle.std.specs.Prelude.{ℕ, ◌-◌, ◌*◌, ◌==◌, min, List, [], ◌∷◌, ◌++◌, filter}
use Rattle.std.specs.Int.{bit_at}
use Rattle.def_meaning.specs.Units.{Slot}
use Rattle.def_jacobian.specs.Patterns.{Place, held}
use Rattle.def_jacobian.specs.Recovered.{Row, from}
use Rattle.adj_jacobian_block.specs.declared.block.Block.{Block}
use Rattle.adj_jacobian_block.specs.Blocks.{blocks, columns_of}

-- the numbers from one on whose bits are set in a word
abbrev pub bits_from : ℕ → ℕ → ℕ → List ℕ
bits_from word first count = filter (λ c. bit_at word (c - first) == 1) (from first count)

-- the columns of a mask from one on, where the block has the number k
abbrev pub columns_from : ℕ → List ℕ → ℕ → ℕ → List ℕ
columns_from k mask first count = filter (columns_of k mask) (from first count)

-- how many columns a block has, of so many in all
abbrev pub width_of : ℕ → ℕ → ℕ
width_of k total = min (total - 256 * k) 256

-- a row with its columns in a block
abbrev pub with_block : ℕ → ℕ → List (Slot Block) → Row → Row
with_block k total slots r = record { at = r.at; columns = r.columns ++ columns_from k (held blocks slots r.at.dummy r.at.cell).columns (256 * k) (width_of k total) }

-- rows at some cells with no columns
abbrev pub bare : List Place → List Row
bare [] = []
bare (a ∷ others) = record { at = a; columns = [] } ∷ bare others
