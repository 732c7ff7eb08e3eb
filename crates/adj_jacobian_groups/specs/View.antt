-- What clauses see of patterns: cells as places, rows as those of the definitions.
use Rattle.std.specs.Prelude.{ℕ, ◌<◌, List, map, length, All}
use Rattle.def_jacobian.specs.Patterns.{Place}
use Rattle.def_jacobian.specs.Recovered.{Row, columns_in}
use Rattle.adj_jacobian_groups.specs.declared.sparsity.Cell.{Cell}
use Rattle.adj_jacobian_groups.specs.declared.sparsity.Row.{Row as CodeRow}
use Rattle.adj_jacobian_groups.specs.declared.sparsity.Sparsity.{Sparsity}

abbrev pub place_of : Cell → Place
place_of a = record { dummy = a.dummy; cell = a.cell }

abbrev pub row_of : CodeRow → Row
row_of r = record { at = place_of r.at; columns = r.columns }

abbrev pub rows_of : List CodeRow → List Row
rows_of rs = map row_of rs

-- the columns of each row
abbrev pub columns_of_rows : List CodeRow → List (List ℕ)
columns_of_rows rs = columns_in (rows_of rs)

-- the numbers in the rows are those of columns
abbrev pub AreNumbered : Sparsity → Type 0
AreNumbered p = All (λ (r : CodeRow). All (λ c. c < length p.cols) r.columns) p.rows
