-- What the code goes over, as clauses see it.
use Rattle.std.specs.Prelude.{ℕ, List, [], ◌∷◌, flat_map, Bool, Option, None, if◌then◌else◌, not, ◌&&◌}
use Rattle.def_names.specs.Numbers.{Vars}
use Rattle.def_names.specs.Numbering.{point_before}
use Rattle.def_flow.specs.Ways.{Deed, passing, assigning, calling, Way}
use Rattle.def_flow.specs.Held.{replaced_on}
use Rattle.def_names.specs.VariableLists.{list_if}
use Rattle.adj_flow.specs.Nodes.{place_in, node_in, linked}
use Rattle.adj_flow.specs.NodeView.{vars_of, told_at, found_at}
use Rattle.adj_flow.specs.Rows.{Row}
use Rattle.adj_reach.specs.Edges.{Edges, flag}
use Rattle.adj_reach_rows.specs.declared.arc.Arc.{Arc}
use Rattle.adj_symbols_writes.specs.Table.{value_of}
use Rattle.adj_tbr.specs.declared.found.Found.{Found}

-- the unit of a name, by the numbers of names
abbrev pub find : List Row → List (List ℕ × ℕ) → List ℕ → Option Row
find rs numbers x = found_at rs (value_of x numbers)

-- whether the statement of a number is adjointed, and whether it is kept
abbrev pub adjointed_by : Found → ℕ → Bool
adjointed_by f i = flag f.adjointed.now i

abbrev pub kept_by : Found → ℕ → Bool
kept_by f i = flag f.kept.now i

-- whether it is a call that is to be split
abbrev pub split_by : Found → ℕ → Bool
split_by f i = flag f.split.now i

-- the variables whose occurrences are active in the statement of a number
abbrev pub active_by : Found → ℕ → Row → ℕ → Vars
active_by f w r i v = told_at f.varied.now w r (point_before i) v && told_at f.shadowed.now w r r.part.number v

-- ---- ways

-- a way holds each variable that no kept statement replaces on it
abbrev pub way_edges : Found → ℕ → Row → Way → Edges
way_edges f w r x = flat_map (λ v. list_if (not (replaced_on (kept_by f) x.deed v)) (linked (node_in w (vars_of r) (x.from, v)) (node_in w (vars_of r) (x.to, v)))) (vars_of r)

abbrev pub unit_edges : Found → ℕ → Row → Edges
unit_edges f w r = flat_map (way_edges f w r) r.ways

-- those of all units that take part
abbrev pub held_edges : Found → List Row → List Bool → ℕ → Edges
held_edges f rs taking w = flat_map (λ r. list_if (flag taking r.part.number) (unit_edges f w r)) rs

-- ---- the same as arcs, which carry the variables of a unit

-- the place of the variable that a kept statement replaces
abbrev pub replaced_at : Found → Row → Deed → Option ℕ
replaced_at f r passing = None
replaced_at f r (assigning i x) = if kept_by f i then place_in 0 (vars_of r) x else None
replaced_at f r (calling es) = None

abbrev pub way_arc : Found → Row → Way → List Arc
way_arc f r x = record { from = x.from; to = x.to; kept = r.part.number; left = replaced_at f r x.deed } ∷ []

abbrev pub unit_arcs : Found → Row → List Arc
unit_arcs f r = flat_map (way_arc f r) r.ways

-- those of all units that take part
abbrev pub held_arcs : Found → List Row → List Bool → List Arc
held_arcs f rs taking = flat_map (λ r. list_if (flag taking r.part.number) (unit_arcs f r)) rs
