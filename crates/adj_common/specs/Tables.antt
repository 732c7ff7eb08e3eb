-- Names, each once, with the places where they stand.
use Rattle.std.specs.Prelude.{ℕ, zero, suc, List, [], ◌∷◌, ◌++◌, Option, Some, None, position, if◌then◌else◌}
use Rattle.adj_tree.specs.Code.{name_eq}

pub record Table : Type 0 where
  pub names : List (List ℕ)
  pub rows : List (List ℕ)

-- the rows with a place more in one of them
abbrev pub add_at : ℕ → ℕ → List (List ℕ) → List (List ℕ)
add_at at k [] = []
add_at zero k (r ∷ rs) = (r ++ k ∷ []) ∷ rs
add_at (suc at) k (r ∷ rs) = r ∷ add_at at k rs

abbrev pub noted_at : Table → List ℕ → ℕ → Option ℕ → Table
noted_at t x k None = record { names = t.names ++ x ∷ []; rows = t.rows ++ (k ∷ []) ∷ [] }
noted_at t x k (Some at) = record t { rows = add_at at k t.rows }

-- a name stands at a place
abbrev pub noted : Table → List ℕ → ℕ → Table
noted t x k = noted_at t x k (position (name_eq x) t.names)

-- names stand at the places from one on
abbrev pub noted_from : Table → ℕ → List (List ℕ) → Table
noted_from t k [] = t
noted_from t k (x ∷ xs) = noted_from (noted t x k) (suc k) xs

abbrev pub no_names : Table
no_names = record { names = []; rows = [] }

abbrev pub tabled : List (List ℕ) → Table
tabled xs = noted_from no_names 0 xs

-- what stands beside a name
abbrev pub beside : {A : Type 0} → List (List ℕ) → List A → List ℕ → Option A
beside [] l x = None
beside (n ∷ ns) [] x = None
beside (n ∷ ns) (a ∷ l) x = if name_eq x n then Some a else beside ns l x
