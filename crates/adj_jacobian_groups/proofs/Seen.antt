-- Rows of the code, and their columns.
use Rattle.std.proofs.Common.{◌≡◌, ℕ, zero, suc, ◌<◌, List, [], ◌∷◌, length, get_or, refl, ap, arith}
use Rattle.adj_jacobian_groups.specs.declared.sparsity.Row.{Row}
use Rattle.adj_jacobian_groups.specs.View.{columns_of_rows}
use Rattle.adj_jacobian_groups.specs.Listed.{list_at}

-- the columns of a row, in the list of all rows'
pub row_columns : (rs : List Row) (i : ℕ) (d : Row) → i < length rs → list_at (columns_of_rows rs) i ≡ (get_or rs i d).columns
row_columns [] i d h = absurd (omega (arith, h))
row_columns (r ∷ rs) zero d h = refl
row_columns (r ∷ rs) (suc i) d h = row_columns rs i d (omega (arith, h))

-- there are as many lists as rows
pub rows_counted : (rs : List Row) → length (columns_of_rows rs) ≡ length rs
rows_counted [] = refl
rows_counted (r ∷ rs) = ap suc (rows_counted rs)
