-- The numbers of statements, points and nodes of a checked program, as the analyses have them (`parts` in Parts).
-- Statements are numbered from 0 in the order of the text, over the whole program, an outer one before those in it.
use Rattle.std.specs.Prelude.{◌≡◌, ℕ, ◌+◌, ◌*◌, ◌<◌, ◌^◌, max, List, [], ◌∷◌, length}
use Rattle.adj_tree.specs.Size.{capped_u64}
use Rattle.adj_tree.specs.View.{procedures_of}
use Rattle.def_names.specs.Variables.{Name}
use Rattle.def_names.specs.StatementsIn as numbering
use Rattle.adj_symbols.specs.Checked.{Known, AreFacts}

-- the greatest number of names in a list
abbrev pub widest : List (List Name) → ℕ
widest [] = 0
widest (xs ∷ xss) = max (length xs) (widest xss)

-- how many units and statements there are, and how many variables a unit has at most
abbrev pub units_in : Known → ℕ
units_in k = length (procedures_of k.program)

abbrev pub statements_in : Known → ℕ
statements_in k = numbering.statements_in 0 (procedures_of k.program)

abbrev pub width_of : Known → ℕ
width_of k = widest k.variables

-- each of them is below 2^30, so that all numbers of points and nodes are those of 64 bits
pub record Fits (k : Known) : Type 0 where
  pub units : units_in k < 2 ^ 30
  pub statements : statements_in k < 2 ^ 30
  pub variables : width_of k < 2 ^ 30

-- a point before each statement, after it and inside it, and a point of entry and of end of each unit
abbrev pub points_in : Known → ℕ
points_in k = 3 * statements_in k + 2 * units_in k

-- a checked program with its counted statements and its width
pub record IsMeasured (k : Known) (statements width : ℕ) : Type 0 where
  pub facts : AreFacts k
  pub count_is : statements ≡ capped_u64 (statements_in k)
  pub widest_is : width ≡ width_of k
