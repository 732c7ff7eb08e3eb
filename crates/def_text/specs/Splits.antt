-- Splits: the calls of a text that directives split.
use Rattle.std.specs.Prelude.{ℕ, List, [], ◌∷◌, if◌then◌else◌}
use Rattle.def_text.specs.declared.stated.Stated.{Stated}

-- the lines of the statements that a directive splits, in order
abbrev pub split_lines : List Stated → List ℕ
split_lines [] = []
split_lines (s ∷ ss) = if s.split then s.line ∷ split_lines ss else split_lines ss
