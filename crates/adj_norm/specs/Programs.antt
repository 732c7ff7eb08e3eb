-- Units one after another: the names that are taken, and whether a loop is marked.
use Rattle.std.specs.Prelude.{◌≡◌, ℕ, List, [], ◌∷◌, ◌++◌, Bool, true, ◌&&◌, ◌==◌}
use Rattle.adj_tree.specs.Code.{Procedure}
use Rattle.def_meaning.specs.Apart.{has_name}
use Rattle.def_kernel.specs.Stepped.{marked_in, step_names}

-- both lists have the same names
abbrev pub AreAlike : List (List ℕ) → List (List ℕ) → Type 0
AreAlike xs ys = (x : List ℕ) → has_name x xs ≡ has_name x ys

-- what is taken after the step units of some units have their names
abbrev pub taken_after : List (List ℕ) → List Procedure → List (List ℕ)
taken_after taken [] = taken
taken_after taken (u ∷ us) = taken_after (taken ++ step_names taken u.name (marked_in u.body)) us

-- no loop is marked in any of the units
abbrev pub are_unmarked : List Procedure → Bool
are_unmarked [] = true
are_unmarked (u ∷ us) = (marked_in u.body == 0) && are_unmarked us
