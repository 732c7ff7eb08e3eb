-- Tables of names with numbers.
use Rattle.std.specs.Prelude.{ℕ, List, [], ◌∷◌, ◌++◌, Option, Some, None, is_some, if◌then◌else◌}
use Rattle.adj_tree.specs.Code.{name_eq}
use Rattle.def_names.specs.Variables.{Name}

-- the number of a name
abbrev pub value_of : Name → List (Name × ℕ) → Option ℕ
value_of x [] = None
value_of x (e ∷ es) = if name_eq x e.0 then Some e.1 else value_of x es

-- the numbers with one more, where the name has none
abbrev pub with_value : List (Name × ℕ) → Name → ℕ → List (Name × ℕ)
with_value es x n = if is_some (value_of x es) then es else es ++ (x, n) ∷ []
