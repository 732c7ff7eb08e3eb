-- Where the rules begin, and their steps, between the numbers of facts, unit by unit.
use Rattle.std.specs.Prelude.{ℕ, List, [], ◌∷◌, ◌++◌, map, flat_map, Bool, true, not, ◌&&◌, Option, Some, None}
use Rattle.adj_tree.specs.Code.{Var, plain, Terms, Act, assign, choose, loop, during, call, runtime}
use Rattle.def_meaning.specs.Read.{is_extent}
use Rattle.def_names.specs.Numbers.{Vars}
use Rattle.def_names.specs.Numbering.{point_before, point_after, point_inside}
use Rattle.def_sweep.specs.Marks.{active_at}
use Rattle.def_flow.specs.Ways.{Way, assigned_on}
use Rattle.def_flow.specs.Standing.{Place, outermost, part_of, turn_of, Standing}
use Rattle.def_names.specs.VariableLists.{list_if, vars_in_terms}
use Rattle.def_flow.specs.AdjointReads.{adjoint_reads_in}
use Rattle.def_flow.specs.Problem.{bound}
use Rattle.def_flow.specs.Activity.{Activity, activity_marks, resets}
use Rattle.def_flow.specs.Rules.{list_of, holders}
use Rattle.def_flow.specs.Uses.{use_point, site, turned_by}
use Rattle.adj_reach.specs.Edges.{Edges, flag}
use Rattle.adj_flow.specs.Nodes.{linked}
use Rattle.adj_flow.specs.NodeView.{vars_of}
use Rattle.adj_flow.specs.Rows.{Row}
use Rattle.adj_flow.specs.UnitRows.{assigned_at}
use Rattle.adj_reach_rows.specs.declared.arc.Arc.{Arc}
use Rattle.adj_live.specs.Numbers.{needed_at, kept_at, wanted_at}
use Rattle.adj_live.specs.Passed.{used_by, handed_by, passed_by}

-- a unit, and what is known of the program: how many variables a unit has at most, the units by name, which of their dummies they read and write, the
-- activity, and the calls that are to be split
pub record Here : Type 0 where
  pub width : ℕ
  pub find : List ℕ → Option Row
  pub read : List ℕ → List Bool
  pub written : List ℕ → List Bool
  pub activity : Activity
  pub split : ℕ → Bool
  pub row : Row

abbrev pub needed_here : Here → ℕ → Var → Option ℕ
needed_here h p v = needed_at h.width (vars_of h.row) p v

-- the variables whose occurrences in an assignment are active
abbrev pub active_here : Here → ℕ → Vars
active_here h i = active_at (activity_marks h.activity h.row.part.number) i

-- ---- where the rules begin

-- these variables are needed at a point, but for the one that is turned by a place
abbrev pub needed_nodes : Here → ℕ → Place → List Var → List ℕ
needed_nodes h p at xs = flat_map (λ v. list_if (not (turned_by at v)) (list_of (needed_here h p v))) xs

-- what a statement begins itself: the adjoint reads of an assignment are needed, and a DO is kept that resets its variable's shadow
abbrev pub own_nodes : Here → ℕ → Act → List ℕ
own_nodes h i (assign x subs e) =
    list_if (h.activity.adjointed i) (needed_nodes h (point_before i) outermost (adjoint_reads_in (active_here h i) e ++ vars_in_terms subs))
own_nodes h i (choose c a b) = []
own_nodes h i (loop x first last by body m) = list_if (resets h.activity h.row.part.number i x) (kept_at h.width i ∷ [])
own_nodes h i (during c body) = []
own_nodes h i (call name args) = []
own_nodes h i (runtime r) = []

-- what the step call of a marked loop passes to dummies that are read is needed before the loop
abbrev pub turned_nodes : Here → Place → Act → List ℕ
turned_nodes h outermost a = []
turned_nodes h (part_of i) a = []
turned_nodes h (turn_of i x) a = needed_nodes h (point_before i) (turn_of i x) (passed_by h.read a)

-- what an adjointed statement begins: that it is kept, where it is to be split, and what it begins for what holds it
abbrev pub held_nodes : Here → Standing → List ℕ
held_nodes h s = list_if (h.split s.number) (kept_at h.width s.number ∷ []) ++ (map (kept_at h.width) (holders s.place) ++ turned_nodes h s.place s.act)

abbrev pub statement_nodes : Here → Standing → List ℕ
statement_nodes h s = own_nodes h s.number s.act ++ list_if (h.activity.adjointed s.number) (held_nodes h s)

-- the extents of the dummy arrays of a unit are wanted
abbrev pub extent_nodes : Here → List ℕ
extent_nodes h = flat_map (λ d. list_if (is_extent d h.row.part.unit.declarations) (list_of (wanted_at h.width (vars_of h.row) h.row.part.number d))) h.row.part.unit.dummies

abbrev pub unit_nodes : Here → List ℕ
unit_nodes h = extent_nodes h ++ flat_map (statement_nodes h) h.row.statements

-- those of all units that take part
abbrev pub all_nodes : (Row → Here) → List Row → List Bool → List ℕ
all_nodes here rs taking = flat_map (λ r. list_if (flag taking r.part.number) (unit_nodes (here r))) rs

-- ---- the steps

-- a dummy that is needed at the entry is wanted
abbrev pub entry_edges : Here → Edges
entry_edges h = flat_map (λ d. linked (needed_here h h.row.part.entry (plain d)) (wanted_at h.width (vars_of h.row) h.row.part.number d)) h.row.part.unit.dummies

-- what is needed behind a way is needed before it, unless it is assigned whole there
abbrev pub way_edges : Here → Way → Edges
way_edges h w = flat_map (λ v. list_if (not (assigned_on w.deed v)) (linked (needed_here h w.to v) (needed_here h w.from v))) (vars_of h.row)

-- what a kept statement uses is needed
abbrev pub used_edges : Here → ℕ → Act → Edges
used_edges h i a = flat_map (λ v. linked (Some (kept_at h.width i)) (needed_here h (use_point i a) v)) (used_by h.read a)

-- an assignment or a DO is kept where its variable is needed
abbrev pub assigned_edges : Here → ℕ → Act → Edges
assigned_edges h i (assign x subs e) = linked (needed_here h (point_after i) x) (Some (kept_at h.width i))
assigned_edges h i (choose c a b) = []
assigned_edges h i (loop x first last by body m) = linked (needed_here h (point_inside i) x) (Some (kept_at h.width i))
assigned_edges h i (during c body) = []
assigned_edges h i (call name args) = []
assigned_edges h i (runtime r) = []

-- what holds a kept statement is kept
abbrev pub held_edges : Here → ℕ → Place → Edges
held_edges h i at = map (λ n. (kept_at h.width i, kept_at h.width n)) (holders at)

-- a call is kept where something that it may write is needed after the statement at which it does its work
abbrev pub handed_edges : Here → Standing → Edges
handed_edges h s = flat_map (λ v. linked (needed_here h (point_after (site (h.activity.adjointed s.number) s.number s.place)) v) (Some (kept_at h.width s.number))) (handed_by h.written s.act)

-- the actuals of what a called unit wants are needed before an adjointed call
abbrev pub member_edges : Here → Standing → Row → List ℕ → Var → Edges
member_edges h s g d v =
    list_if (h.activity.adjointed s.number && not (turned_by s.place v)) (linked (wanted_at h.width (vars_of g) g.part.number d) (needed_here h (point_before (site true s.number s.place)) v))

abbrev pub found_edges : Here → Standing → Terms → Option Row → Edges
found_edges h s args None = []
found_edges h s args (Some g) = flat_map (λ b. member_edges h s g b.0 b.1) (bound g.part.unit.dummies args)

abbrev pub call_edges : Here → Standing → Act → Edges
call_edges h s (assign x subs e) = []
call_edges h s (choose c a b) = []
call_edges h s (loop x first last by body m) = []
call_edges h s (during c body) = []
call_edges h s (call name args) = found_edges h s args (h.find name)
call_edges h s (runtime r) = []

abbrev pub statement_edges : Here → Standing → Edges
statement_edges h s = used_edges h s.number s.act ++ (assigned_edges h s.number s.act ++ (held_edges h s.number s.place ++ (handed_edges h s ++ call_edges h s s.act)))

abbrev pub unit_edges : Here → Edges
unit_edges h = entry_edges h ++ (flat_map (way_edges h) h.row.ways ++ flat_map (statement_edges h) h.row.statements)

-- those of all units that take part
abbrev pub all_edges : (Row → Here) → List Row → List Bool → Edges
all_edges here rs taking = flat_map (λ r. list_if (flag taking r.part.number) (unit_edges (here r))) rs

-- ---- the same steps, those along ways as arcs, which carry the variables of a unit

abbrev pub way_arc : Here → Way → List Arc
way_arc h w = record { from = w.to; to = w.from; kept = h.row.part.number; left = assigned_at h.row w.deed } ∷ []

abbrev pub row_arcs : Here → List Arc
row_arcs h = flat_map (way_arc h) h.row.ways

abbrev pub other_edges : Here → Edges
other_edges h = entry_edges h ++ flat_map (statement_edges h) h.row.statements

-- those of all units that take part
abbrev pub all_arcs : (Row → Here) → List Row → List Bool → List Arc
all_arcs here rs taking = flat_map (λ r. list_if (flag taking r.part.number) (row_arcs (here r))) rs

abbrev pub all_others : (Row → Here) → List Row → List Bool → Edges
all_others here rs taking = flat_map (λ r. list_if (flag taking r.part.number) (other_edges (here r))) rs
