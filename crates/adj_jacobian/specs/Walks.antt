-- Walks along an input whose flagged dummies are columns.
use Rattle.std.specs.Prelude.{ℕ, ◌+◌, ◌==◌, ◌||◌, ℤ, pos, List, [], ◌∷◌, map, Bool, true, false}
use Rattle.def_jacobian.specs.Inputs.{as_columns}
use Rattle.def_jacobian.specs.Patterns.{Place}

-- a word that is a column where it is flagged
abbrev pub one_by : {C : Type 0} → (ℤ → C) → (ℤ → ℕ → C) → Bool → ℤ → ℕ → C
one_by other own true z j = own z j
one_by other own false z j = other z

-- the cells of a dummy, which are columns from a number on where it is flagged
abbrev pub cells_by : {C : Type 0} → (ℤ → C) → (ℤ → ℕ → C) → Bool → List ℤ → ℕ → List C
cells_by other own true zs j = as_columns own zs j
cells_by other own false zs j = map other zs

-- the number of the column behind a dummy with so many cells
abbrev pub next_column : Bool → ℕ → ℕ → ℕ
next_column true j n = j + n
next_column false j n = j

-- the tangent of what is no column
abbrev pub still_tangent : ℤ → ℤ
still_tangent z = pos 0

-- whether a dummy has some of the cells
abbrev pub has_dummy : List Place → ℕ → Bool
has_dummy [] i = false
has_dummy (a ∷ others) i = (a.dummy == i) || has_dummy others i
