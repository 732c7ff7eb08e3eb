-- The flags of the dummies of a unit.
use Rattle.std.specs.Prelude.{ℕ, List, [], Bool, Option, Some, None, slice_index_or}

-- which of its dummies the unit of a number has in a set
abbrev pub row_by : List (List Bool) → Option ℕ → List Bool
row_by rows None = []
row_by rows (Some n) = slice_index_or rows n []
