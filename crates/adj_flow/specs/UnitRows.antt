-- Rows of bits that hold the places of variables.
use Rattle.std.specs.Prelude.{◌≡◌, ◌↔◌, ℕ, ◌*◌, ◌<◌, ◌≤◌, List, Option, Some, None, All, Contains, length, map, slice_index_or}
use Rattle.adj_tree.specs.Code.{Var}
use Rattle.def_flow.specs.Ways.{Deed, passing, assigning, calling}
use Rattle.adj_flow.specs.Nodes.{place_in}
use Rattle.adj_flow.specs.NodeView.{vars_of}
use Rattle.adj_flow.specs.Rows.{Row, row_of}
use Rattle.adj_flow.specs.declared.units.Flow.{Flow}
use Rattle.adj_reach_rows.specs.Arcs.{bit_in}
use Rattle.adj_reach_rows.specs.declared.bits.Rows.{Rows}

-- one of the variables has this place among them
abbrev pub IsPlace : List Var → ℕ → Type 0
IsPlace vs j = (v : Var) × (place_in 0 vs v ≡ Some j)

-- the row of each unit's number has the bits of the places of its variables
abbrev pub HoldPlaces : Rows → List Row → Type 0
HoldPlaces rows rs = (g : Row) → Contains rs g → (j : ℕ) → j < 64 * rows.words → (bit_in rows g.part.number j ≡ 1) ↔ IsPlace (vars_of g) j

-- the units are numbered in their order, and none has more than so many variables
pub record AreNumbered (f : Flow) (width : ℕ) : Type 0 where
  pub numbers : (i : ℕ) (d : Row) → i < length f.parts.items → (slice_index_or (map row_of f.parts.items) i d).part.number ≡ i
  pub narrow : All (λ vs. length vs ≤ width) (map (λ p. p.variables.now) f.parts.items)

-- the place of the variable that is assigned whole on a way
abbrev pub assigned_at : Row → Deed → Option ℕ
assigned_at r passing = None
assigned_at r (assigning i x) = place_in 0 (vars_of r) x
assigned_at r (calling es) = None
