-- Words that each carry a set of columns: the inputs' cells on which a value can depend along the path of a run.
use Rattle.std.specs.Prelude.{ℕ, zero, suc, ◌==◌, ◌||◌, ℤ, Bool, false}
use Rattle.adj_word.specs.Word.{add, sub, mul, negated, power}
use Rattle.def_meaning.specs.Numbers.{Numbers}

-- a set of columns, as what says whether a column is in it
abbrev pub Columns : Type 0
Columns = ℕ → Bool

abbrev pub no_column : Columns
no_column = λ c. false

abbrev pub one_column : ℕ → Columns
one_column j = λ c. c == j

abbrev pub together : Columns → Columns → Columns
together s t = λ c. s c || t c

-- those of a power: none for the exponent 0
abbrev pub columns_of_power : Columns → ℕ → Columns
columns_of_power s zero = no_column
columns_of_power s (suc k) = s

-- a word and its columns; literals, DO variables, quotients and what they leave have none
abbrev pub marked : Numbers (ℤ × Columns)
marked = record {
  of_word = λ z. (z, no_column);
  shown = λ a. a.0;
  negation = λ a. (negated a.0, a.1);
  sum = λ a b. (add a.0 b.0, together a.1 b.1);
  difference = λ a b. (sub a.0 b.0, together a.1 b.1);
  product = λ a b. (mul a.0 b.0, together a.1 b.1);
  raised_to = λ a k. (power a.0 k, columns_of_power a.1 k);
}
