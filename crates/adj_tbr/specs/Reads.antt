-- The adjoint reads, as the code goes over the units.
use Rattle.std.specs.Prelude.{ℕ, List, [], ◌++◌, flat_map, Bool, true, Option, Some, None, not, ◌&&◌, ◌||◌}
use Rattle.adj_tree.specs.Code.{Var, plain, Terms, Act, assign, choose, loop, during, call, runtime}
use Rattle.def_names.specs.Numbering.{point_before}
use Rattle.def_flow.specs.Standing.{Standing}
use Rattle.def_flow.specs.Uses.{site, turned_by, is_turn}
use Rattle.def_names.specs.VariableLists.{list_if, vars_in_terms}
use Rattle.def_flow.specs.AdjointReads.{adjoint_reads_in}
use Rattle.def_flow.specs.Rules.{list_of}
use Rattle.adj_flow.specs.Nodes.{node_in}
use Rattle.adj_flow.specs.NodeView.{vars_of, told_at}
use Rattle.adj_flow.specs.Rows.{Row}
use Rattle.adj_reach.specs.Edges.{flag}
use Rattle.adj_tbr.specs.Bound.{Passed, bound_from, dummies_at}
use Rattle.adj_tbr.specs.View.{adjointed_by, kept_by, split_by, active_by}
use Rattle.adj_tbr.specs.declared.found.Found.{Found}
use Rattle.adj_flow.specs.declared.sides.Sides.{Sides}

-- a variable before a statement
abbrev pub node_before : ℕ → Row → ℕ → Var → List ℕ
node_before w r i v = list_of (node_in w (vars_of r) (point_before i, v))

-- ---- assignments

-- the adjoint reads of an assignment, of its right side and of its target's subscripts
abbrev pub assigned_reads : Found → ℕ → Row → ℕ → Act → List Var
assigned_reads f w r i (assign x subs e) = list_if (adjointed_by f i) (adjoint_reads_in (active_by f w r i) e) ++ list_if (kept_by f i || adjointed_by f i) (vars_in_terms subs)
assigned_reads f w r i (choose c a b) = []
assigned_reads f w r i (loop x first last by body m) = []
assigned_reads f w r i (during c body) = []
assigned_reads f w r i (call name args) = []
assigned_reads f w r i (runtime t) = []

-- ---- calls

-- whether an adjointed call reads the actual of a dummy: the dummy is in the entry set, or read in a turn or by a split call, and isn't written
abbrev pub is_wanted : Found → Sides → ℕ → Standing → Row → Passed → Bool
is_wanted f t w s g b = not (turned_by s.place b.2) && ((told_at f.entry.now w g g.part.number (plain b.1) || ((split_by f s.number || is_turn s.place) && flag (dummies_at t.read.now g) b.0)) && not (flag (dummies_at t.written.now g) b.0))

-- where a unit was found
abbrev pub found_reads : Found → Sides → ℕ → Row → Standing → Terms → Option Row → List ℕ
found_reads f t w r s args None = []
found_reads f t w r s args (Some g) =
    list_if (adjointed_by f s.number) (flat_map (λ b. list_if (is_wanted f t w s g b) (node_before w r (site true s.number s.place) b.2)) (bound_from 0 g.part.unit.dummies args))

abbrev pub call_reads : Found → Sides → (List ℕ → Option Row) → ℕ → Row → Standing → Act → List ℕ
call_reads f t find w r s (assign x subs e) = []
call_reads f t find w r s (choose c a b) = []
call_reads f t find w r s (loop x first last by body m) = []
call_reads f t find w r s (during c body) = []
call_reads f t find w r s (call name args) = found_reads f t w r s args (find name)
call_reads f t find w r s (runtime u) = []

-- ---- all

abbrev pub standing_reads : Found → Sides → (List ℕ → Option Row) → ℕ → Row → Standing → List ℕ
standing_reads f t find w r s = flat_map (node_before w r s.number) (assigned_reads f w r s.number s.act) ++ call_reads f t find w r s s.act

abbrev pub unit_reads : Found → Sides → (List ℕ → Option Row) → ℕ → Row → List ℕ
unit_reads f t find w r = flat_map (standing_reads f t find w r) r.statements

-- those of all units that take part
abbrev pub read_nodes : Found → Sides → (List ℕ → Option Row) → List Row → List Bool → ℕ → List ℕ
read_nodes f t find rs taking w = flat_map (λ r. list_if (flag taking r.part.number) (unit_reads f t find w r)) rs
