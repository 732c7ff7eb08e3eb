-- Sets of names, as lists in which nothing stands twice.
use Rattle.std.specs.Prelude.{ℕ, List, [], ◌∷◌, ◌++◌, if◌then◌else◌}
use Rattle.def_meaning.specs.Apart.{has_name}

-- the names with one more behind them, where it isn't among them
abbrev pub with_name : List (List ℕ) → List ℕ → List (List ℕ)
with_name xs x = if has_name x xs then xs else xs ++ x ∷ []

-- the same, which no comparison unfolds
unfoldable pub with_added : List ℕ → List (List ℕ) → List (List ℕ)
with_added x xs = with_name xs x

-- the names of the first list and then those of the second, each once
abbrev pub all_added : List (List ℕ) → List (List ℕ) → List (List ℕ)
all_added xs [] = xs
all_added xs (y ∷ ys) = all_added (with_added y xs) ys
