-- The steps of flow along ways as arcs, which carry the variables of a unit. On a call's way they stay edges, since its actuals don't pass along.
use Rattle.std.specs.Prelude.{◌≡◌, ℕ, ◌*◌, ◌<◌, List, [], ◌∷◌, ◌++◌, map, max, flat_map, Bool, true, false, not, Option}
use Rattle.def_flow.specs.Ways.{Deed, passing, assigning, calling, Way}
use Rattle.def_names.specs.VariableLists.{list_if}
use Rattle.adj_flow.specs.Rows.{Row, row_of}
use Rattle.adj_flow.specs.NodeView.{vars_of, found_at}
use Rattle.adj_flow.specs.declared.units.Flow as made
use Rattle.adj_symbols_writes.specs.Table.{value_of}
use Rattle.adj_reach.specs.Edges.{Edges, flag}
use Rattle.adj_flow.specs.UnitRows.{HoldPlaces, assigned_at}
use Rattle.adj_reach_rows.specs.declared.arc.Arc.{Arc}
use Rattle.adj_activity.specs.Edges.{way_edges}
use Rattle.adj_activity.specs.View.{standing_edges}
use Rattle.adj_activity.specs.declared.steps.Steps.{Steps}
use Rattle.adj_activity.specs.declared.steps.Steps.TheVariants.{Flow, Shadows, Adjoints}
use Rattle.adj_activity.specs.declared.along.Along.{Along}

-- whether a unit is called on a way
abbrev pub is_calling : Deed → Bool
is_calling passing = false
is_calling (assigning i x) = false
is_calling (calling es) = true

-- a way carries each variable of its unit but the one that is assigned on it
abbrev pub arc_of : Row → Way → Arc
arc_of f x = record { from = x.from; to = x.to; kept = f.part.number; left = assigned_at f x.deed }

abbrev pub way_arc : Row → Way → List Arc
way_arc f x = list_if (not (is_calling x.deed)) (arc_of f x ∷ [])

abbrev pub row_arcs : Row → List Arc
row_arcs f = flat_map (way_arc f) f.ways

-- those of all units that take part
abbrev pub flow_arcs : List Row → List Bool → List Arc
flow_arcs rs taking = flat_map (λ r. list_if (flag taking r.part.number) (row_arcs r)) rs

-- ---- what isn't carried by arcs

abbrev pub call_way : ℕ → Row → Way → Edges
call_way w f x = list_if (is_calling x.deed) (way_edges w (vars_of f) x)

-- the ways of calls of a unit, where steps go along them
abbrev pub along_calls : Steps → ℕ → Row → Edges
along_calls Flow w f = flat_map (call_way w f) f.ways
along_calls (Shadows flags) w f = []
along_calls Adjoints w f = []

abbrev pub other_edges : Steps → (List ℕ → Option Row) → ℕ → Row → Edges
other_edges t find w f = along_calls t w f ++ flat_map (standing_edges t find w f) f.statements

-- those of the units that take part
abbrev pub all_others : Steps → List Row → List (List ℕ × ℕ) → List Bool → ℕ → Edges
all_others t rs numbers taking w = flat_map (λ r. list_if (flag taking r.part.number) (other_edges t (λ x. found_at rs (value_of x numbers)) w r)) rs

-- ---- all steps of flow

pub record AreAlong (f : made.Flow) (s : Along) : Type 0 where
  pub width : s.width ≡ max f.width 1
  pub wide : s.width < 64 * s.rows.words
  pub places : HoldPlaces s.rows (map row_of f.parts.items)
  pub arcs : s.arcs.items ≡ flow_arcs (map row_of f.parts.items) f.taking
  pub edges : s.edges.items ≡ all_others Flow (map row_of f.parts.items) f.numbers f.taking f.width
