-- Printed: the lines of values. (docs/DATA.md, "Output")
use Rattle.std.specs.Prelude.{ℕ, ℤ, List, [], ◌∷◌, ◌++◌, flat_map}
use Rattle.std.specs.Fmt.{signed_decimal}
use Rattle.def_text.specs.Char.{blank, line_feed}
use Rattle.def_meaning.specs.Units.{Slot}

-- numbers, each behind a blank
abbrev pub numbers_text : List ℤ → List ℕ
numbers_text zs = flat_map (λ z. blank ∷ signed_decimal z) zs

-- a line for each name: the name and what its slot holds
abbrev pub values_text : List (List ℕ) → List (Slot ℤ) → List ℕ
values_text [] vs = []
values_text (x ∷ xs) [] = []
values_text (x ∷ xs) (v ∷ vs) = x ++ (numbers_text v.cells ++ (line_feed ∷ values_text xs vs))
