-- Where the data of a text begin.
use Rattle.std.specs.Prelude.{ℕ, ◌+◌, min, List, [], ◌∷◌, length, if◌then◌else◌}
use Rattle.def_text.specs.Line.{cut_lines, without_cr, next_number, is_data}

-- how long lines are up to `$DATA`, or all of them, each with its line feed
unfoldable pub text_len : List (List ℕ) → ℕ
text_len [] = 0
text_len (l ∷ ls) = if is_data (without_cr l) then length l + 1 else length l + 1 + text_len ls

-- the number of the line `$DATA`, or of the last line, where line n stands before these
unfoldable pub data_line : ℕ → List (List ℕ) → ℕ
data_line n [] = n
data_line n (l ∷ ls) = if is_data (without_cr l) then next_number n else data_line (next_number n) ls

-- where the bytes behind the line `$DATA` begin (a last line may lack its line feed), and the number of that line:
-- the length, and the number of the last line, where there is none
abbrev pub data_of : List ℕ → ℕ × ℕ
data_of bytes = (min (text_len (cut_lines bytes)) (length bytes), data_line 0 (cut_lines bytes))
