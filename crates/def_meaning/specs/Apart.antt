-- Names in lists: whether one stands in a list, and lists in which none stands twice.
use Rattle.std.specs.Prelude.{◌≡◌, ℕ, List, [], ◌∷◌, Bool, false, ◌||◌}
use Rattle.adj_tree.specs.Code.{Var, plain, shadow, helper, name_eq}

-- whether the name stands in the list
abbrev pub has_name : List ℕ → List (List ℕ) → Bool
has_name x [] = false
has_name x (y ∷ ys) = name_eq x y || has_name x ys

-- whether the variable is one of the text with one of these names
abbrev pub is_named : List (List ℕ) → Var → Bool
is_named xs (plain x) = has_name x xs
is_named xs (shadow x) = false
is_named xs (helper r k) = false

-- no name stands twice in the list
abbrev pub AreApart : List (List ℕ) → Type 0
AreApart [] = Unit {0}
AreApart (x ∷ xs) = (has_name x xs ≡ false) × AreApart xs
