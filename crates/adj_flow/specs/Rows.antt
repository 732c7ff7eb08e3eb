-- The units of a program as the analyses go over them.
use Rattle.std.specs.Prelude.{ℕ, List, [], map, slice_index_or}
use Rattle.adj_tree.specs.Code.{Procedure}
use Rattle.adj_tree.specs.View.{procedure_of}
use Rattle.def_flow.specs.Parts as parts
use Rattle.def_flow.specs.Ways.{Way}
use Rattle.def_flow.specs.Standing.{Standing}
use Rattle.def_flow.specs.Problem.{statements_of, ways_of}
use Rattle.adj_flow.specs.View.{standing_of}
use Rattle.adj_flow.specs.WayView.{way_of}
use Rattle.adj_flow.specs.declared.row.Part.{Part}

-- a unit with its statements, its ways and its variables
pub record Row : Type 0 where
  pub part : parts.Part
  pub statements : List Standing
  pub ways : List Way
  pub variables : List (List ℕ)

abbrev pub row_of : Part → Row
row_of p = record {
  part = record { number = p.number; unit = procedure_of p.unit.now; first = p.first; entry = p.entry; end = p.end };
  statements = map standing_of p.statements.items;
  ways = map way_of p.ways.items;
  variables = p.variables.now;
}

-- the row of a unit with these variables
abbrev pub row_at : List (List ℕ) → parts.Part → Row
row_at vs g = record { part = g; statements = statements_of g; ways = ways_of g; variables = vs }

-- the row of a unit, whose variables stand at its number
abbrev pub row_in : List (List (List ℕ)) → parts.Part → Row
row_in vss g = row_at (slice_index_or vss g.number []) g

-- all units
abbrev pub rows : List (List (List ℕ)) → List Procedure → List Row
rows vss ps = map (row_in vss) (parts.parts ps)
