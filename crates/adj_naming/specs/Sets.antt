-- Sets of variables, as lists in which nothing stands twice.
use Rattle.std.specs.Prelude.{◌≡◌, List, [], ◌∷◌, Bool, false, ◌||◌}
use Rattle.adj_tree.specs.Code.{Var, var_eq}

-- whether the variable stands in the list
abbrev pub has_variable : Var → List Var → Bool
has_variable v [] = false
has_variable v (w ∷ ws) = var_eq v w || has_variable v ws

-- no variable stands twice in the list
abbrev pub AreDifferent : List Var → Type 0
AreDifferent [] = Unit {0}
AreDifferent (v ∷ vs) = (has_variable v vs ≡ false) × AreDifferent vs
