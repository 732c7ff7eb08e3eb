-- The pattern of a run as lists, and what is recovered from one dual run for each group.
use Rattle.std.specs.Prelude.{ℕ, zero, suc, ℤ, List, [], ◌∷◌, ◌++◌, length, map, filter, Bool, true, false}
use Rattle.def_meaning.specs.Units.{Slot, Output}
use Rattle.def_jacobian.specs.Columns.{Columns}
use Rattle.def_jacobian.specs.Patterns.{Place, columns_at}
use Rattle.def_jacobian.specs.Groups.{group_of}

-- the numbers from i on
abbrev pub from : ℕ → ℕ → List ℕ
from i zero = []
from i (suc n) = i ∷ from (suc i) n

-- the cells of the marked dummies, in the order of dummies and of storage; the first dummy has the number i
abbrev pub places : List Bool → List (Slot ℤ) → ℕ → List Place
places marks [] i = []
places [] (v ∷ vs) i = []
places (true ∷ marks) (v ∷ vs) i = map (λ j. record { dummy = i; cell = j }) (from 0 (length v.cells)) ++ places marks vs (suc i)
places (false ∷ marks) (v ∷ vs) i = places marks vs (suc i)

-- a row: a cell of a dependent, and its columns in order
pub record Row : Type 0 where
  pub at : Place
  pub columns : List ℕ

-- the columns of a set below a number, in order
abbrev pub listed : Columns → ℕ → List ℕ
listed s n = filter s (from 0 n)

-- the rows that a pattern run gives at some cells, where there are n columns
abbrev pub rows_at : Output (ℤ × Columns) → ℕ → List Place → List Row
rows_at out n [] = []
rows_at out n (a ∷ others) = record { at = a; columns = listed (columns_at out a) n } ∷ rows_at out n others

abbrev pub columns_in : List Row → List (List ℕ)
columns_in [] = []
columns_in (r ∷ rs) = r.columns ∷ columns_in rs

-- an entry of a derivative
pub record Entry : Type 0 where
  pub row : ℕ
  pub col : ℕ
  pub value : ℤ

abbrev pub entries_of_row : (Place → ℕ → ℤ) → ℕ → Place → List ℕ → List Entry
entries_of_row at i a [] = []
entries_of_row at i a (c ∷ cs) = record { row = i; col = c; value = at a c } ∷ entries_of_row at i a cs

-- one entry for each pair of the pattern, by row and then column, with the value of its cell and its column; the first row has the number i
abbrev pub entries : (Place → ℕ → ℤ) → List Row → ℕ → List Entry
entries at [] i = []
entries at (r ∷ rs) i = entries_of_row at i r.at r.columns ++ entries at rs (suc i)

-- the entry as it is found in the product of the column's group
abbrev pub found : List ℕ → (ℕ → Place → ℤ) → Place → ℕ → ℤ
found groups product a c = product (group_of groups c) a
