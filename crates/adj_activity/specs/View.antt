-- What the code goes over, as clauses see it.
use Rattle.std.specs.Prelude.{ℕ, ◌+◌, ◌*◌, List, [], ◌∷◌, ◌++◌, map, flat_map, Bool, Option, Some, None}
use Rattle.std.specs.Borrow.{Bor}
use Rattle.adj_tree.specs.Code.{Var, Terms, Act, assign, choose, loop, during, call, runtime}
use Rattle.def_flow.specs.Standing.{Standing}
use Rattle.def_names.specs.VariableLists.{list_if}
use Rattle.def_flow.specs.Problem.{bound}
use Rattle.def_flow.specs.Rules.{holders}
use Rattle.adj_flow.specs.Rows.{Row}
use Rattle.adj_reach.specs.Edges.{Edges, flag}
use Rattle.adj_symbols_writes.specs.Table.{value_of}
use Rattle.adj_flow.specs.NodeView.{vars_of, found_at, told_at}
use Rattle.adj_activity.specs.Edges.{way_edges, assigned_edges, called_edges, lent_edges}
use Rattle.adj_activity.specs.declared.steps.Steps.{Steps}
use Rattle.adj_activity.specs.declared.steps.Steps.TheVariants.{Flow, Shadows, Adjoints}

-- a dummy of a unit that is called, and its actual; adjoints don't go by actuals
abbrev pub pair_edges : Steps → ℕ → Row → ℕ → Row → List ℕ → Var → Edges
pair_edges Flow w f i g d a = called_edges w (vars_of f) (λ q. vars_of g) i g.part d a
pair_edges (Shadows flags) w f i g d a = lent_edges w (vars_of f) (λ q. vars_of g) (told_at flags.now w g) f.part.number g.part d a
pair_edges Adjoints w f i g d a = []

-- a call of a unit that was found
abbrev pub found_edges : Steps → ℕ → Row → ℕ → Terms → Option Row → Edges
found_edges t w f i args None = []
found_edges t w f i args (Some g) = flat_map (λ b. pair_edges t w f i g b.0 b.1) (bound g.part.unit.dummies args)

abbrev pub call_edges : Steps → (List ℕ → Option Row) → ℕ → Row → ℕ → Act → Edges
call_edges t find w f i (assign x subs e) = []
call_edges t find w f i (choose c a b) = []
call_edges t find w f i (loop x first last by body m) = []
call_edges t find w f i (during c body) = []
call_edges t find w f i (call name args) = found_edges t w f i args (find name)
call_edges t find w f i (runtime r) = []

-- a unit that is called makes the call adjointed, whose number is n among adjoints
abbrev pub maker_edge : ℕ → Option Row → Edges
maker_edge n None = []
maker_edge n (Some g) = (2 * g.part.number + 1, n) ∷ []

abbrev pub maker_edges : (List ℕ → Option Row) → ℕ → Act → Edges
maker_edges find n (assign x subs e) = []
maker_edges find n (choose c a b) = []
maker_edges find n (loop x first last by body m) = []
maker_edges find n (during c body) = []
maker_edges find n (call name args) = maker_edge n (find name)
maker_edges find n (runtime r) = []

-- what a statement makes adjointed, and what makes it
abbrev pub made_edges : (List ℕ → Option Row) → ℕ → Standing → Edges
made_edges find u s = map (λ i. (2 * s.number, 2 * i)) (holders s.place) ++ ((2 * s.number, 2 * u + 1) ∷ maker_edges find (2 * s.number) s.act)

abbrev pub standing_edges : Steps → (List ℕ → Option Row) → ℕ → Row → Standing → Edges
standing_edges Flow find w f s = assigned_edges w (vars_of f) s.number s.act ++ call_edges Flow find w f s.number s.act
standing_edges (Shadows flags) find w f s = call_edges (Shadows flags) find w f s.number s.act
standing_edges Adjoints find w f s = made_edges find f.part.number s

-- the ways of a unit, where steps go along them
abbrev pub along_ways : Steps → ℕ → Row → Edges
along_ways Flow w f = flat_map (way_edges w (vars_of f)) f.ways
along_ways (Shadows flags) w f = []
along_ways Adjoints w f = []

abbrev pub row_edges : Steps → (List ℕ → Option Row) → ℕ → Row → Edges
row_edges t find w f = along_ways t w f ++ flat_map (standing_edges t find w f) f.statements

-- the edges of the units that take part
abbrev pub all_edges : Steps → List Row → List (List ℕ × ℕ) → List Bool → ℕ → Edges
all_edges t rs numbers taking w = flat_map (λ r. list_if (flag taking r.part.number) (row_edges t (λ x. found_at rs (value_of x numbers)) w r)) rs

-- by the steps of each rule
abbrev pub flow_listed : List Row → List (List ℕ × ℕ) → List Bool → ℕ → Edges
flow_listed = all_edges Flow

abbrev pub shadows_listed : Bor (List Bool) → List Row → List (List ℕ × ℕ) → List Bool → ℕ → Edges
shadows_listed varied = all_edges (Shadows varied)

abbrev pub adjoints_listed : List Row → List (List ℕ × ℕ) → List Bool → ℕ → Edges
adjoints_listed = all_edges Adjoints
