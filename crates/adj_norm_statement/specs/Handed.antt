-- Which dummies of a unit are written, by a table.
use Rattle.std.specs.Prelude.{ℕ, List, [], Bool, Option, Some, None, position, slice_get, unwrap_or}
use Rattle.adj_tree.specs.Code.{name_eq}
use Rattle.def_meaning.specs.LeastSet.{Dummies}
use Rattle.adj_norm_statement.specs.declared.handed.Handed.{Handed}

-- the row at a place, or none
abbrev pub flags_of : List (List Bool) → ℕ → List Bool
flags_of rows place = unwrap_or (slice_get rows place) []

abbrev pub flags_at : List (List Bool) → Option ℕ → List Bool
flags_at rows None = []
flags_at rows (Some place) = flags_of rows place

-- the row of the unit of a name
abbrev pub handed_by : Handed → Dummies
handed_by h name = flags_at h.rows.items (position (name_eq name) h.units)
