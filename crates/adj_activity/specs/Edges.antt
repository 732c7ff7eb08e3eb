-- The steps of flow between numbers.
use Rattle.std.specs.Prelude.{ℕ, ◌+◌, ◌*◌, List, [], ◌++◌, map, flat_map, not, ◌&&◌}
use Rattle.adj_tree.specs.Code.{Var, plain, Act, assign, choose, loop, during, call, runtime}
use Rattle.def_names.specs.Numbers.{Vars}
use Rattle.def_names.specs.Numbering.{point_before, point_after}
use Rattle.def_flow.specs.Parts.{Part, parts}
use Rattle.def_flow.specs.Ways.{Way, assigned_on, passed_on}
use Rattle.def_flow.specs.Standing.{Standing}
use Rattle.def_names.specs.VariableLists.{list_if, occurring_in}
use Rattle.def_flow.specs.Problem.{Problem, statements_of, ways_of, flagged}
use Rattle.def_flow.specs.Activity.{Activity, Adjoint, statement, unit}
use Rattle.def_flow.specs.Rules.{Scope, list_of, called, at_actuals, head_parts, somewhere, adjoint_starts, adjoint_steps}
use Rattle.adj_reach.specs.Edges.{Edges}
use Rattle.adj_flow.specs.Nodes.{node_in, linked}

-- a way carries each variable but those that are assigned or passed on it
abbrev pub way_edges : ℕ → List Var → Way → Edges
way_edges w vs r = flat_map (λ v. list_if (not (assigned_on r.deed v) && not (passed_on r.deed v)) (linked (node_in w vs (r.from, v)) (node_in w vs (r.to, v)))) vs

-- an assignment leads each differentiable occurrence to its target
abbrev pub assigned_edges : ℕ → List Var → ℕ → Act → Edges
assigned_edges w vs i (assign x subs e) = flat_map (λ v. linked (node_in w vs (point_before i, v)) (node_in w vs (point_after i, x))) (occurring_in e)
assigned_edges w vs i (choose c a b) = []
assigned_edges w vs i (loop x first last by body m) = []
assigned_edges w vs i (during c body) = []
assigned_edges w vs i (call name args) = []
assigned_edges w vs i (runtime r) = []

-- a call leads an actual to its dummy at the entry of the unit, and that back at its end
abbrev pub called_edges : ℕ → List Var → (Part → List Var) → ℕ → Part → List ℕ → Var → Edges
called_edges w vs variables i g d a =
    linked (node_in w vs (point_before i, a)) (node_in w (variables g) (g.entry, plain d)) ++ linked (node_in w (variables g) (g.end, plain d)) (node_in w vs (point_after i, a))

abbrev pub statement_edges : Problem → Scope → ℕ → Part → Standing → Edges
statement_edges k o w g s =
    assigned_edges w (o.variables g) s.number s.act ++ flat_map (at_actuals (called_edges w (o.variables g) o.variables s.number)) (called (parts k.units) s.act)

abbrev pub unit_edges : Problem → Scope → ℕ → Part → Edges
unit_edges k o w g = flat_map (way_edges w (o.variables g)) (ways_of g) ++ flat_map (statement_edges k o w g) (statements_of g)

-- those of all units that take part
abbrev pub flow_edges : Problem → Scope → ℕ → Edges
flow_edges k o w = flat_map (unit_edges k o w) o.parts

-- the independents at the head's entry, and the dependents at its end
abbrev pub entry_nodes : Problem → Scope → ℕ → List ℕ
entry_nodes k o w = flat_map (λ g. flat_map (λ d. list_of (node_in w (o.variables g) (g.entry, plain d))) (flagged k.vars g.unit.dummies)) (head_parts k)

abbrev pub end_nodes : Problem → Scope → ℕ → List ℕ
end_nodes k o w = flat_map (λ g. flat_map (λ d. list_of (node_in w (o.variables g) (g.end, plain d))) (flagged k.outvars g.unit.dummies)) (head_parts k)

-- ---- shadows: the variable at place j of the u-th unit has the number u * w + j

abbrev pub head_shadows : Problem → Scope → ℕ → Part → List ℕ
head_shadows k o w g =
    flat_map (λ d. list_of (node_in w (o.variables g) (g.number, plain d))) (flagged k.vars g.unit.dummies) ++ flat_map (λ d. list_of (node_in w (o.variables g) (g.number, plain d))) (flagged k.outvars g.unit.dummies)

-- varied at some point and useful at some point
abbrev pub active_shadows : Scope → ℕ → (ℕ → Vars) → (ℕ → Vars) → Part → List ℕ
active_shadows o w varied useful g =
    flat_map (λ v. list_if (somewhere (ways_of g) (λ p. varied p v) && somewhere (ways_of g) (λ p. useful p v)) (list_of (node_in w (o.variables g) (g.number, v)))) (o.variables g)

abbrev pub shadow_nodes : Problem → Scope → ℕ → (ℕ → Vars) → (ℕ → Vars) → List ℕ
shadow_nodes k o w varied useful = flat_map (head_shadows k o w) (head_parts k) ++ flat_map (active_shadows o w varied useful) o.parts

-- a dummy lends its shadow to its actual, and an actual to its dummy, if that is varied at the entry of its unit
abbrev pub lent_edges : ℕ → List Var → (Part → List Var) → (ℕ → Vars) → ℕ → Part → List ℕ → Var → Edges
lent_edges w vs variables varied u g d a =
    linked (node_in w (variables g) (g.number, plain d)) (node_in w vs (u, a)) ++ list_if (varied g.entry (plain d)) (linked (node_in w vs (u, a)) (node_in w (variables g) (g.number, plain d)))

abbrev pub unit_shadows : Problem → Scope → ℕ → (ℕ → Vars) → Part → Edges
unit_shadows k o w varied f = flat_map (λ s. flat_map (at_actuals (lent_edges w (o.variables f) o.variables varied f.number)) (called (parts k.units) s.act)) (statements_of f)

abbrev pub shadow_edges : Problem → Scope → ℕ → (ℕ → Vars) → Edges
shadow_edges k o w varied = flat_map (unit_shadows k o w varied) o.parts

-- ---- adjoints: statements have the even numbers, and units the odd ones

abbrev pub adjoint_number : Adjoint → ℕ
adjoint_number (statement i) = 2 * i
adjoint_number (unit u) = 2 * u + 1

abbrev pub adjoint_nodes : Activity → Scope → List ℕ
adjoint_nodes a o = map adjoint_number (adjoint_starts a o)

abbrev pub adjoint_edges : Problem → Scope → Edges
adjoint_edges k o = map (λ e. (adjoint_number e.0, adjoint_number e.1)) (adjoint_steps k o)
