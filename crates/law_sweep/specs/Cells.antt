-- The cells of a unit's variables.
use Rattle.std.specs.Prelude.{ℕ, zero, suc, List, [], ◌∷◌, ◌++◌}
use Rattle.adj_tree.specs.Code.{Var, plain}
use Rattle.def_meaning.specs.Store.{Shape, size_of}
use Rattle.law_sweep.specs.Pairs.{Key}

-- those of x below m
abbrev pub cells_below : List ℕ → ℕ → List Key
cells_below x zero = []
cells_below x (suc j) = (x, j) ∷ cells_below x j

-- all cells of these variables
abbrev pub cells_of : (Var → Shape) → List (List ℕ) → List Key
cells_of sh [] = []
cells_of sh (x ∷ xs) = cells_below x (size_of (sh (plain x))) ++ cells_of sh xs
