-- The sets that flags tell: the flag of a node says whether its variable is in the set at its point.
use Rattle.std.specs.Prelude.{ℕ, ◌==◌, List, [], ◌∷◌, flat_map, Bool, false, Option, Some, None, if◌then◌else◌}
use Rattle.def_names.specs.Numbers.{Vars}
use Rattle.def_flow.specs.Closure.{is_in}
use Rattle.def_flow.specs.Scopes.{same_number}
use Rattle.def_flow.specs.Parts.{Part}
use Rattle.def_flow.specs.Problem.{ways_of}
use Rattle.def_flow.specs.Rules.{Scope}
use Rattle.adj_reach.specs.Edges.{flag}
use Rattle.adj_flow.specs.Nodes.{node_in}

-- the points of a unit, those of each of its ways
abbrev pub points_of : Part → List ℕ
points_of g = flat_map (λ w. w.from ∷ w.to ∷ []) (ways_of g)

-- the unit of a point
abbrev pub unit_at : List Part → ℕ → Option Part
unit_at [] p = None
unit_at (g ∷ gs) p = if is_in same_number (points_of g) p then Some g else unit_at gs p

-- the unit of a number
abbrev pub unit_of : List Part → ℕ → Option Part
unit_of [] u = None
unit_of (g ∷ gs) u = if g.number == u then Some g else unit_of gs u

abbrev pub flag_at : List Bool → Option ℕ → Bool
flag_at flags None = false
flag_at flags (Some m) = flag flags m

-- the variables of a unit whose flags at p are set
abbrev pub told_in : List Bool → Scope → ℕ → ℕ → Option Part → Vars
told_in flags o w p None v = false
told_in flags o w p (Some g) v = flag_at flags (node_in w (o.variables g) (p, v))

-- the set at each point
abbrev pub told : List Bool → Scope → ℕ → ℕ → Vars
told flags o w p = told_in flags o w p (unit_at o.parts p)

-- the set of each unit
abbrev pub told_of : List Bool → Scope → ℕ → ℕ → Vars
told_of flags o w u = told_in flags o w u (unit_of o.parts u)
