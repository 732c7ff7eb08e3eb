-- Which variables carry a tangent: the least set that holds the head's independents and dependents and what is varied at a point of its unit, and
-- that holds the actual of each dummy in it.
use Rattle.std.specs.Prelude.{◌↔◌, ℕ, List, Contains}
use Rattle.adj_tree.specs.Code.{Var, plain, Terms, Procedure}
use Rattle.def_names.specs.Numbers.{Vars}
use Rattle.def_sweep.specs.Facts.{In}
use Rattle.def_sweep.specs.Marking.{place_from}
use Rattle.adj_reach.specs.Reached.{Reached}
use Rattle.def_flow.specs.Parts.{Part}
use Rattle.def_flow.specs.Standing.{Standing}
use Rattle.def_flow.specs.Problem.{Problem, CallsUnit, IsHead, TakesPart, flagged, bound}
use Rattle.def_flow.specs.Flow.{Varied}
use Rattle.def_flow.specs.Activity.{IsPoint}

-- ---- the least set

-- a variable of the unit of this number is in the set by itself
pub data CarriesOutright (k : Problem) : ℕ × Var → Type 0 where
  independent : {g : Part} {d : List ℕ} → IsHead k g → Contains (flagged k.vars g.unit.dummies) d → CarriesOutright k (g.number, plain d)
  dependent : {g : Part} {d : List ℕ} → IsHead k g → Contains (flagged k.outvars g.unit.dummies) d → CarriesOutright k (g.number, plain d)
  -- it is varied at some point of its unit
  somewhere : {g : Part} {p : ℕ} {v : Var} → TakesPart k g → IsPoint g p → Varied k (p, v) → CarriesOutright k (g.number, v)

-- a dummy that carries one has its actual carry one, in each call
pub data LendsTangent (k : Problem) : ℕ × Var → ℕ × Var → Type 0 where
  handed : {f g : Part} {s : Standing} {args : Terms} {d : List ℕ} {a : Var} → TakesPart k f → CallsUnit k f g s args → Contains (bound g.unit.dummies args) (d, a) → LendsTangent k (g.number, plain d) (f.number, a)

abbrev pub CarriesTangent : Problem → ℕ × Var → Type 0
CarriesTangent k = Reached (CarriesOutright k) (LendsTangent k)

-- ---- analyses that say so

-- that these are just the varied variables, by points, and just those that carry a tangent, by the numbers of units
pub record IsCarrying (k : Problem) (f on : ℕ → Vars) : Type 0 where
  pub varied : (p : ℕ) (v : Var) → In v (f p) ↔ Varied k (p, v)
  pub carried : (u : ℕ) (v : Var) → In v (on u) ↔ CarriesTangent k (u, v)

-- the same by the names of units
abbrev pub carried_by : List Procedure → (ℕ → Vars) → List ℕ → Vars
carried_by ps on name = on (place_from 0 ps name)
