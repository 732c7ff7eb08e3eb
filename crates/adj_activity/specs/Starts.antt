-- Where the steps of each rule begin, as the code goes over the units.
use Rattle.std.specs.Prelude.{◌≡◌, ℕ, ◌+◌, ◌*◌, ◌<◌, List, length, map, flat_map, Bool, true, false, ◌&&◌, Option, Some, None}
use Rattle.std.specs.Borrow.{Bor}
use Rattle.adj_tree.specs.Code.{plain, Terms, none, more}
use Rattle.def_flow.specs.Standing.{Standing}
use Rattle.def_names.specs.Numbers.{Vars}
use Rattle.def_names.specs.VariableLists.{list_if}
use Rattle.def_flow.specs.Problem.{flagged}
use Rattle.def_flow.specs.Activity.{Activity}
use Rattle.def_flow.specs.Rules.{list_of, somewhere, adjoint_starts_at}
use Rattle.adj_flow.specs.Rows.{Row}
use Rattle.adj_reach.specs.Edges.{flag}
use Rattle.adj_flow.specs.Nodes.{node_in}
use Rattle.adj_activity.specs.Edges.{adjoint_number}
use Rattle.adj_flow.specs.NodeView.{vars_of, told_at}
use Rattle.adj_activity.specs.declared.found.Found.{Found}

-- the flagged dummies of a unit at a point
abbrev pub point_nodes : ℕ → Row → ℕ → List Bool → List ℕ
point_nodes w r p flags = flat_map (λ d. list_of (node_in w (vars_of r) (p, plain d))) (flagged flags r.part.unit.dummies)

-- whether a variable is useful somewhere in a unit, by flags; without flags it is
abbrev pub is_useful_in : Option (Bor (List Bool)) → ℕ → Row → Vars
is_useful_in None w r v = true
is_useful_in (Some useful) w r v = somewhere r.ways (λ p. told_at useful.now w r p v)

-- by the places of the variables of a unit, whether they are flagged somewhere in it
abbrev pub AreSeen : List Bool → List Bool → ℕ → Row → Type 0
AreSeen seen flags w r = (j : ℕ) → j < length r.variables → flag seen j ≡ somewhere r.ways (λ p. flag flags (p * w + j))

-- and whether they are useful there; without flags they are
abbrev pub AreUseful : List Bool → Option (Bor (List Bool)) → ℕ → Row → Type 0
AreUseful seen None w r = (j : ℕ) → j < length r.variables → flag seen j ≡ true
AreUseful seen (Some useful) w r = AreSeen seen useful.now w r

-- the variables of a unit that are varied and useful somewhere in it
abbrev pub active_nodes : List Bool → Option (Bor (List Bool)) → ℕ → Row → List ℕ
active_nodes varied useful w r =
    flat_map (λ v. list_if (somewhere r.ways (λ p. told_at varied w r p v) && is_useful_in useful w r v) (list_of (node_in w (vars_of r) (r.part.number, v)))) (vars_of r)

-- those of all units that take part
abbrev pub all_active : List Bool → Option (Bor (List Bool)) → List Row → List Bool → ℕ → List ℕ
all_active varied useful rs taking w = flat_map (λ r. list_if (flag taking r.part.number) (active_nodes varied useful w r)) rs

-- the activity of a unit, as far as it is found
abbrev pub row_activity : Found → ℕ → Row → Activity
row_activity f w r = record { varied = told_at f.varied.now w r; useful = told_at f.useful.now w r; adjointed = λ i. false; shadowed = told_at f.shadowed.now w r }

-- whether there are no terms
abbrev pub is_none_of : Terms → Bool
is_none_of none = true
is_none_of (more e es) = false

-- a statement, if it is adjointed by itself
abbrev pub outright_at : Found → ℕ → Row → Standing → List ℕ
outright_at f w r s = map adjoint_number (adjoint_starts_at (row_activity f w r) r.part.number s.number s.act)

abbrev pub outright_in : Found → ℕ → Row → List ℕ
outright_in f w r = flat_map (outright_at f w r) r.statements

-- those of all units that take part
abbrev pub all_outright : Found → List Row → List Bool → ℕ → List ℕ
all_outright f rs taking w = flat_map (λ r. list_if (flag taking r.part.number) (outright_in f w r)) rs
