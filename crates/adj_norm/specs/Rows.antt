-- Rows of flags by names.
use Rattle.std.specs.Prelude.{ℕ, List, [], ◌∷◌, Bool, if◌then◌else◌}
use Rattle.adj_tree.specs.Code.{name_eq}

-- the row of a name, where there is a row for each name
abbrev pub at_name : List (List ℕ) → List (List Bool) → List ℕ → List Bool
at_name [] rows x = []
at_name (y ∷ ys) [] x = []
at_name (y ∷ ys) (ws ∷ rows) x = if name_eq x y then ws else at_name ys rows x
