-- The values that are saved, as the code goes over the units. A variable of the i-th statement's unit has the number that it has at a point i.
use Rattle.std.specs.Prelude.{ℕ, List, [], ◌++◌, flat_map, Bool, Option, Some, None, not, ◌&&◌, ◌||◌}
use Rattle.adj_tree.specs.Code.{Var, Terms, Act, assign, choose, loop, during, call, runtime}
use Rattle.def_names.specs.Numbering.{point_before}
use Rattle.def_flow.specs.Standing.{Standing}
use Rattle.def_flow.specs.Uses.{site}
use Rattle.def_names.specs.VariableLists.{list_if, handed_in_actuals}
use Rattle.def_flow.specs.Rules.{list_of}
use Rattle.adj_flow.specs.Nodes.{node_in}
use Rattle.adj_flow.specs.NodeView.{vars_of, told_at}
use Rattle.adj_flow.specs.Rows.{Row}
use Rattle.adj_reach.specs.Edges.{flag}
use Rattle.adj_tbr.specs.Bound.{dummies_at}
use Rattle.adj_tbr.specs.View.{adjointed_by, kept_by, split_by}
use Rattle.adj_tbr.specs.declared.found.Found.{Found}
use Rattle.adj_flow.specs.declared.sides.Sides.{Sides}

-- a variable that a statement replaces, if it is held before it
abbrev pub saved_node : List Bool → ℕ → Row → ℕ → Var → List ℕ
saved_node held w r i v = list_if (told_at held w r (point_before i) v) (list_of (node_in w (vars_of r) (i, v)))

-- by an assignment or a DO
abbrev pub own_saves : List Bool → Found → ℕ → Row → ℕ → Act → List ℕ
own_saves held f w r i (assign x subs e) = list_if (kept_by f i) (saved_node held w r i x)
own_saves held f w r i (choose c a b) = []
own_saves held f w r i (loop x first last by body m) = list_if (kept_by f i) (saved_node held w r i x)
own_saves held f w r i (during c body) = []
own_saves held f w r i (call name args) = []
own_saves held f w r i (runtime t) = []

-- whether a call saves: it is kept or adjointed, and isn't split
abbrev pub call_may_save : Found → ℕ → Bool
call_may_save f i = not (split_by f i && adjointed_by f i) && (kept_by f i || adjointed_by f i)

-- by a call of a unit that was found
abbrev pub found_saves : List Bool → Found → Sides → ℕ → Row → Standing → Terms → Option Row → List ℕ
found_saves held f t w r s args None = []
found_saves held f t w r s args (Some g) =
    list_if (call_may_save f s.number) (flat_map (saved_node held w r (site (adjointed_by f s.number) s.number s.place)) (handed_in_actuals (dummies_at t.written.now g) args))

abbrev pub call_saves : List Bool → Found → Sides → (List ℕ → Option Row) → ℕ → Row → Standing → Act → List ℕ
call_saves held f t find w r s (assign x subs e) = []
call_saves held f t find w r s (choose c a b) = []
call_saves held f t find w r s (loop x first last by body m) = []
call_saves held f t find w r s (during c body) = []
call_saves held f t find w r s (call name args) = found_saves held f t w r s args (find name)
call_saves held f t find w r s (runtime u) = []

-- ---- all

abbrev pub standing_saves : List Bool → Found → Sides → (List ℕ → Option Row) → ℕ → Row → Standing → List ℕ
standing_saves held f t find w r s = own_saves held f w r s.number s.act ++ call_saves held f t find w r s s.act

abbrev pub unit_saves : List Bool → Found → Sides → (List ℕ → Option Row) → ℕ → Row → List ℕ
unit_saves held f t find w r = flat_map (standing_saves held f t find w r) r.statements

-- those of all units that take part
abbrev pub save_nodes : List Bool → Found → Sides → (List ℕ → Option Row) → List Row → List Bool → ℕ → List ℕ
save_nodes held f t find rs taking w = flat_map (λ r. list_if (flag taking r.part.number) (unit_saves held f t find w r)) rs
