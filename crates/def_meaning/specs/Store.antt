-- Stores: what the cells of the variables hold. (docs/RUNNING.md, "Values")
use Rattle.std.specs.Prelude.{ℕ, zero, suc, ◌+◌, ◌*◌, nat_lt, ◌==◌, ◌&&◌, ℤ, pos, List, [], ◌∷◌, Option, Some, None, if◌then◌else◌}
use Rattle.adj_tree.specs.Code.{Var, var_eq}

-- the rows and columns of a variable: both 0 for a scalar, and columns 0 for an array of one dimension
pub record Shape : Type 0 where
  pub rows : ℕ
  pub cols : ℕ

abbrev pub scalar : Shape
scalar = record { rows = 0; cols = 0 }

-- how many cells a variable has
abbrev pub size_of : Shape → ℕ
size_of sh = if sh.rows == 0 then 1 else (if sh.cols == 0 then sh.rows else sh.rows * sh.cols)

-- what each cell of each variable holds; a scalar has the cell 0, an array its elements from 0 in storage order
abbrev pub Store : Type 0 → Type 0
Store C = Var → ℕ → C

-- the store with another number in one cell
abbrev pub set : {C : Type 0} → Store C → Var → ℕ → C → Store C
set s x i c = λ y j. if var_eq y x && (j == i) then c else s y j

-- the store with other numbers in all cells of a variable
abbrev pub set_all : {C : Type 0} → Store C → Var → (ℕ → C) → Store C
set_all s x cs = λ y j. if var_eq y x then cs j else s y j

-- a subscript that lies within its extent, counted from 0
abbrev pub within : ℤ → ℕ → Option ℕ
within (pos zero) m = None
within (pos (suc i)) m = if nat_lt i m then Some i else None
within z m = None

-- the first subscript varies fastest
abbrev pub by_column : ℕ → Option ℕ → Option ℕ → Option ℕ
by_column rows (Some i) (Some j) = Some (i + j * rows)
by_column rows o p = None

-- the cell that subscripts name, where each lies within its extent (ANSI X3.9-1978, 5.4)
abbrev pub cell_of : Shape → List ℤ → Option ℕ
cell_of sh (i ∷ []) = within i sh.rows
cell_of sh (i ∷ j ∷ []) = by_column sh.rows (within i sh.rows) (within j sh.cols)
cell_of sh _ = None

-- the first n cells from i on, in order
abbrev pub cells_from : {C : Type 0} → (ℕ → C) → ℕ → ℕ → List C
cells_from cs i zero = []
cells_from cs i (suc n) = cs i ∷ cells_from cs (suc i) n
