-- What the code lists before it groups columns, and what it looks for.
use Rattle.std.specs.Prelude.{◌≡◌, ℕ, ◌<◌, List, [], ◌∷◌, ◌++◌, length, slice_set, slice_index_or, Bool, false, ◌||◌}
use Rattle.def_jacobian.specs.Groups.{has, in_group}

-- the list at a place
abbrev pub list_at : List (List ℕ) → ℕ → List ℕ
list_at lists i = slice_index_or lists i []

-- one list has a number more, at its end
abbrev pub with_more : List (List ℕ) → ℕ → ℕ → List (List ℕ)
with_more lists i x = slice_set lists i (list_at lists i ++ x ∷ [])

-- the list of each column has the numbers of the rows that have the column
pub record ListRows (rows : List (List ℕ)) (columns : ℕ) (lists : List (List ℕ)) : Type 0 where
  pub count : length lists ≡ columns
  pub exact : (c r : ℕ) → c < columns → has (list_at lists c) r ≡ has (list_at rows r) c

-- whether one of some columns is in a group
abbrev pub any_in : List ℕ → List ℕ → ℕ → Bool
any_in groups [] g = false
any_in groups (c ∷ cs) g = in_group groups g c || any_in groups cs g

-- whether one of the columns of some rows, by their numbers, is in a group
abbrev pub any_row_in : List ℕ → List (List ℕ) → List ℕ → ℕ → Bool
any_row_in groups rows [] g = false
any_row_in groups rows (r ∷ rs) g = any_in groups (list_at rows r) g || any_row_in groups rows rs g
