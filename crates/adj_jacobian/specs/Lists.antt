-- Rows of a pattern, where a run over few columns leaves lists.
use Rattle.std.specs.Prelude.{ℕ, List, [], ◌∷◌, drop, is_none, Bool, Option, Some, None}
use Rattle.def_meaning.specs.Units.{Slot}
use Rattle.def_jacobian.specs.Patterns.{Place, held}
use Rattle.def_jacobian.specs.Recovered.{Row}
use Rattle.adj_jacobian_few.specs.declared.few.Few.{Few}
use Rattle.adj_jacobian_few.specs.Few.{few, list_of}

-- the list of a cell's columns, or nothing where they are many
abbrev pub list_in : List (Slot Few) → Place → Option (List ℕ)
list_in slots a = list_of (held few slots a.dummy a.cell).columns

-- a cell without a list
abbrev pub is_open : List (Slot Few) → Place → Bool
is_open slots a = is_none (list_in slots a)

-- the row of a cell: its list, or the first of some others, and one without columns where there is none
abbrev pub row_in : Option (List ℕ) → Place → List Row → Row
row_in (Some zs) a others = record { at = a; columns = zs }
row_in None a [] = record { at = a; columns = [] }
row_in None a (r ∷ others) = r

-- the others that are left
abbrev pub left_in : Option (List ℕ) → List Row → List Row
left_in (Some zs) others = others
left_in None others = drop 1 others

-- the row of each cell
abbrev pub woven : List (Slot Few) → List Place → List Row → List Row
woven slots [] others = []
woven slots (a ∷ cells) others = row_in (list_in slots a) a others ∷ woven slots cells (left_in (list_in slots a) others)
