-- What a forward unit leaves on the tape, by the dummies that it doesn't write.
use Rattle.std.specs.Prelude.{ℕ, List, [], ◌∷◌, ◌++◌, Bool, drop, if◌then◌else◌}
use Rattle.def_meaning.specs.Apart.{has_name}
use Rattle.adj_reach.specs.Edges.{flag}

-- some names, unless something is written
abbrev pub only_read : Bool → List (List ℕ) → List (List ℕ)
only_read b xs = if b then [] else xs

-- the names whose flag isn't set
abbrev pub read_only : List (List ℕ) → List Bool → List (List ℕ)
read_only [] ws = []
read_only (d ∷ ds) ws = only_read (flag ws 0) (d ∷ []) ++ read_only ds (drop 1 ws)

-- the names that aren't among these
abbrev pub unless_among : List (List ℕ) → List (List ℕ) → List (List ℕ)
unless_among stays [] = []
unless_among stays (x ∷ xs) = if has_name x stays then unless_among stays xs else x ∷ unless_among stays xs
