-- Nodes by numbers: the variable that stands at place j among those of its unit has, at the point p, the number p * w + j.
use Rattle.std.specs.Prelude.{◌≡◌, ℕ, suc, ◌+◌, ◌*◌, ◌≤◌, List, [], ◌∷◌, length, Option, Some, None, if◌then◌else◌}
use Rattle.adj_tree.specs.Code.{Var, var_eq}
use Rattle.def_flow.specs.Parts.{Part}
use Rattle.def_flow.specs.Problem.{Problem, TakesPart}
use Rattle.def_flow.specs.Activity.{IsPoint}
use Rattle.def_flow.specs.Rules.{Scope}
use Rattle.def_flow.specs.Flow.{Node}
use Rattle.adj_reach.specs.Edges.{Edges}

-- the place of a variable in a list, the first place being k
abbrev pub place_in : ℕ → List Var → Var → Option ℕ
place_in k [] v = None
place_in k (x ∷ xs) v = if var_eq v x then Some k else place_in (suc k) xs v

-- the number at a point, or of a unit
abbrev pub number_at : ℕ → ℕ → Option ℕ → Option ℕ
number_at w p None = None
number_at w p (Some j) = Some (p * w + j)

-- the number of a variable among these, at a point
abbrev pub node_in : ℕ → List Var → Node → Option ℕ
node_in w vs n = number_at w n.0 (place_in 0 vs n.1)

-- no unit has more than w variables
abbrev pub IsWide : Problem → Scope → ℕ → Type 0
IsWide k o w = (g : Part) → TakesPart k g → length (o.variables g) ≤ w

-- a variable of a unit that takes part has this number at a place of the unit, as `At` says
pub record HasNumber (k : Problem) (o : Scope) (w : ℕ) (At : Part → ℕ → Type 0) (n : Node) (m : ℕ) : Type 0 where
  pub unit : Part
  pub takes : TakesPart k unit
  pub at : At unit n.0
  pub number : node_in w (o.variables unit) n ≡ Some m

-- at a point
abbrev pub HasNode : Problem → Scope → ℕ → Node → ℕ → Type 0
HasNode k o w = HasNumber k o w IsPoint

-- in the unit of a number
abbrev pub IsNumbered : Part → ℕ → Type 0
IsNumbered g u = g.number ≡ u

abbrev pub HasVariable : Problem → Scope → ℕ → Node → ℕ → Type 0
HasVariable k o w = HasNumber k o w IsNumbered

-- an edge between two numbers, where both are there
abbrev pub linked : Option ℕ → Option ℕ → Edges
linked None n = []
linked (Some m) None = []
linked (Some m) (Some n) = (m, n) ∷ []
