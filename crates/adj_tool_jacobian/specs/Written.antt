-- Written: the lines of a derivative. (docs/COMMANDS.md, "`jacobian`")
use Rattle.std.specs.Prelude.{ℕ, zero, suc, ◌+◌, List, [], ◌∷◌, ◌++◌, length, flat_map, codes, decimal}
use Rattle.std.specs.Fmt.{signed_decimal}
use Rattle.def_jacobian.specs.Patterns.{Place}
use Rattle.def_jacobian.specs.Recovered.{Row, Entry}
use Rattle.adj_tool_answer.specs.Answer.{line_of_one}

-- the name of a dummy
abbrev pub name_of : List (List ℕ) → ℕ → List ℕ
name_of [] i = []
name_of (x ∷ xs) zero = x
name_of (x ∷ xs) (suc i) = name_of xs i

-- the cell of a number, the first one where there is none
abbrev pub place_in : List Place → ℕ → Place
place_in [] i = record { dummy = 0; cell = 0 }
place_in (a ∷ others) zero = a
place_in (a ∷ others) (suc i) = place_in others i

-- a cell as it is written: the name of its dummy, and its own number from 1
abbrev pub place_text : List (List ℕ) → Place → List ℕ
place_text names a = name_of names a.dummy ++ (codes " " ++ decimal (suc a.cell))

-- the line of an entry: its row, its column and its value
abbrev pub entry_line : List (List ℕ) → (cells columns : List Place) → Entry → List ℕ
entry_line names cells columns e =
    codes "JAC " ++ (place_text names (place_in cells e.row) ++ (codes " " ++ (place_text names (place_in columns e.col) ++ (codes " " ++ (signed_decimal e.value ++ codes "\n")))))

-- the cell of a row
abbrev pub at_of : Row → Place
at_of r = r.at

-- how many pairs of a row and a column a pattern has
abbrev pub pairs_in : List Row → ℕ
pairs_in [] = 0
pairs_in (r ∷ rs) = length r.columns + pairs_in rs

-- how many rows, columns and pairs there are
abbrev pub pattern_line : ℕ → ℕ → ℕ → List ℕ
pattern_line rows columns pairs = codes "PATTERN " ++ (decimal rows ++ (codes " " ++ (decimal columns ++ (codes " " ++ (decimal pairs ++ codes "\n")))))

-- the pattern, the number of groups, and a line for each entry
abbrev pub derivative_text : List (List ℕ) → (cells columns : List Place) → List Row → ℕ → List Entry → List ℕ
derivative_text names cells columns rows count es =
    pattern_line (length cells) (length columns) (pairs_in rows) ++ (line_of_one (codes "GROUPS ") count ++ flat_map (entry_line names cells columns) es)
