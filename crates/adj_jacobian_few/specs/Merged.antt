-- Two increasing lists of numbers as one.
use Rattle.std.specs.Prelude.{ℕ, suc, nat_lt, ◌==◌, ◌≤◌, min, List, [], ◌∷◌, Option, Some, None, if◌then◌else◌}

-- a number and those behind it, among others: before the first that isn't less, and once where that is the same
abbrev pub placed : ℕ → (List ℕ → List ℕ) → List ℕ → List ℕ
placed x behind_it [] = x ∷ behind_it []
placed x behind_it (y ∷ ys) = if nat_lt y x then y ∷ placed x behind_it ys else if y == x then x ∷ behind_it ys else x ∷ behind_it (y ∷ ys)

-- the numbers of both lists in increasing order, each once
abbrev pub merged : List ℕ → List ℕ → List ℕ
merged [] ys = ys
merged (x ∷ xs) ys = placed x (merged xs) ys

-- the least number of both
abbrev pub least : List ℕ → List ℕ → Option ℕ
least [] [] = None
least [] (y ∷ ys) = Some y
least (x ∷ xs) [] = Some x
least (x ∷ xs) (y ∷ ys) = Some (min x y)

-- a list without its first number where that is the given one
abbrev pub behind : ℕ → List ℕ → List ℕ
behind z [] = []
behind z (x ∷ xs) = if x == z then xs else x ∷ xs

-- in increasing order, from a number on
abbrev pub IncreasesFrom : ℕ → List ℕ → Type 0
IncreasesFrom i [] = Unit {0}
IncreasesFrom i (x ∷ xs) = (i ≤ x) × IncreasesFrom (suc x) xs
