-- Words with a block of columns, as masks.
use Rattle.std.specs.Prelude.{◌≡◌, ℕ, zero, suc, ℤ, List, [], bit_or, replicate, map, slice_set, if◌then◌else◌, ◌^◌, Bool, ◌==◌, ◌&&◌, ◌/◌, ◌%◌, get_or}
use Rattle.std.specs.Int.{bit_at}
use Rattle.std.specs.List.{range_with_len}
use Rattle.adj_word.specs.Word.{add, sub, mul, negated, power}
use Rattle.def_meaning.specs.Numbers.{Numbers}
use Rattle.def_meaning.specs.Units.{run_unit}
use Rattle.def_meaning.specs.Seen.{ending_seen}
use Rattle.def_jacobian.specs.Columns.{Columns}
use Rattle.def_jacobian.specs.Inputs.{by_columns}
use Rattle.def_jacobian.specs.Patterns.{Task, pattern_run}
use Rattle.def_jacobian.specs.Laws.{in_part}
use Rattle.adj_jacobian_block.specs.declared.block.Block.{Block}

-- the bits of either, in each of 4 words
abbrev pub either_of : List ℕ → List ℕ → List ℕ
either_of xs ys = map (λ k. bit_or (get_or xs k 0) (get_or ys k 0)) (range_with_len 0 4)

abbrev pub mask_of_power : List ℕ → ℕ → List ℕ
mask_of_power m zero = replicate 4 0
mask_of_power m (suc k) = m

abbrev pub blocks : Numbers Block
blocks = record {
  of_word = λ z. record { value = z; columns = replicate 4 0 };
  shown = λ a. a.value;
  negation = λ a. record { value = negated a.value; columns = a.columns };
  sum = λ a b. record { value = add a.value b.value; columns = either_of a.columns b.columns };
  difference = λ a b. record { value = sub a.value b.value; columns = either_of a.columns b.columns };
  product = λ a b. record { value = mul a.value b.value; columns = either_of a.columns b.columns };
  raised_to = λ a k. record { value = power a.value k; columns = mask_of_power a.columns k };
}

-- whether a mask has a bit
abbrev pub has_bit : List ℕ → ℕ → Bool
has_bit m i = bit_at (get_or m (i / 64) 0) (i % 64) == 1

-- the columns of a mask, where the block begins with the column 256 * k
abbrev pub columns_of : ℕ → List ℕ → Columns
columns_of k m c = (c / 256 == k) && has_bit m (c % 256)

-- a word with the columns of its mask
abbrev pub marked_by : ℕ → Block → ℤ × Columns
marked_by k a = (a.value, columns_of k a.columns)

-- the word of a column, at its place in the block
abbrev pub of_place : ℤ → ℕ → Block
of_place z place = record { value = z; columns = slice_set (replicate 4 0) (place / 64) (2 ^ (place % 64)) }

-- the mask of a column: its bit where it is in the block
abbrev pub mask_in : ℕ → ℕ → List ℕ
mask_in k c = if c / 256 == k then slice_set (replicate 4 0) (c % 256 / 64) (2 ^ (c % 256 % 64)) else replicate 4 0

-- the block's number of a word and its column
abbrev pub own_in : ℕ → ℤ → ℕ → Block
own_in k z c = record { value = z; columns = mask_in k c }

-- the columns of a block
abbrev pub inside_block : ℕ → Columns
inside_block k c = c / 256 == k

-- a run over the words of a block of columns is the pattern run, seen with the columns of the block
abbrev pub BlockRunIsPattern : Type 0
BlockRunIsPattern = (k : ℕ) (p : Task) →
    ending_seen (marked_by k) (run_unit blocks p.units p.unit (by_columns blocks.of_word (own_in k) p.vars p.input 0) [] p.room p.budget) ≡ ending_seen (in_part (inside_block k)) (pattern_run p)
