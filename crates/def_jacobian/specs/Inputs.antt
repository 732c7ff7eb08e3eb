-- The inputs of pattern runs and of dual runs: the cells of the independents are the columns, numbered from 0 in the order of dummies and of storage.
use Rattle.std.specs.Prelude.{ℕ, suc, ◌+◌, ◌==◌, ℤ, pos, List, [], ◌∷◌, length, map, Bool, true, false, if◌then◌else◌}
use Rattle.std.specs.List.{zip}
use Rattle.def_meaning.specs.Units.{Slot}
use Rattle.def_jacobian.specs.Columns.{Columns, no_column, one_column}

-- some words as columns, the first of which has the number j
abbrev pub as_columns : {C : Type 0} → (ℤ → ℕ → C) → List ℤ → ℕ → List C
as_columns own [] j = []
as_columns own (z ∷ zs) j = own z j ∷ as_columns own zs (suc j)

-- each cell of a marked dummy by its word and its column, and each other cell by its word; a dummy whose mark is missing isn't marked
abbrev pub by_columns : {C : Type 0} → (ℤ → C) → (ℤ → ℕ → C) → List Bool → List (Slot ℤ) → ℕ → List (Slot C)
by_columns other own vars [] j = []
by_columns other own [] (v ∷ vs) j = record { shape = v.shape; cells = map other v.cells } ∷ by_columns other own [] vs j
by_columns other own (true ∷ vars) (v ∷ vs) j = record { shape = v.shape; cells = as_columns own v.cells j } ∷ by_columns other own vars vs (j + length v.cells)
by_columns other own (false ∷ vars) (v ∷ vs) j = record { shape = v.shape; cells = map other v.cells } ∷ by_columns other own vars vs j

-- the input of the pattern run: each column has itself, all else has none
abbrev pub with_columns : List Bool → List (Slot ℤ) → List (Slot (ℤ × Columns))
with_columns vars input = by_columns (λ z. (z, no_column)) (λ z j. (z, one_column j)) vars input 0

-- the input of a dual run: each column has its tangent, all else has 0
abbrev pub in_direction : (ℕ → ℤ) → List Bool → List (Slot ℤ) → List (Slot (ℤ × ℤ))
in_direction t vars input = by_columns (λ z. (z, pos 0)) (λ z j. (z, t j)) vars input 0

-- tangent 1 at one column, 0 elsewhere
abbrev pub one_at : ℕ → ℕ → ℤ
one_at j c = if c == j then pos 1 else pos 0

-- tangents with the extents of the input: those of the columns, 0 elsewhere
abbrev pub tangents : (ℕ → ℤ) → List Bool → List (Slot ℤ) → List (Slot ℤ)
tangents t vars input = by_columns (λ z. pos 0) (λ z j. t j) vars input 0

-- words and their tangents side by side
abbrev pub paired : List (Slot ℤ) → List (Slot ℤ) → List (Slot (ℤ × ℤ))
paired [] ts = []
paired (v ∷ vs) [] = []
paired (v ∷ vs) (t ∷ ts) = record { shape = v.shape; cells = zip v.cells t.cells } ∷ paired vs ts
