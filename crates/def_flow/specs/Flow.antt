-- The flow of values and derivatives. A node is a point with a variable; an array is one variable. (docs/ANALYSES.md, "Flow"; Hascoët, Naumann and Pascual 2005)
use Rattle.std.specs.Prelude.{◌≡◌, ℕ, List, false, Contains}
use Rattle.adj_tree.specs.Code.{Var, plain, Term, Terms, assign}
use Rattle.def_names.specs.Numbering.{point_before, point_after}
use Rattle.def_sweep.specs.Facts.{In}
use Rattle.adj_reach.specs.Reached.{Reached}
use Rattle.def_flow.specs.Parts.{Part}
use Rattle.def_flow.specs.Ways.{Way, assigned_on, passed_on}
use Rattle.def_flow.specs.Standing.{Standing}
use Rattle.def_sweep.specs.Occurrences.{occurring}
use Rattle.def_flow.specs.Problem.{Problem, statements_of, ways_of, CallsUnit, IsHead, TakesPart, flagged, bound}

abbrev pub Node : Type 0
Node = ℕ × Var

-- a differentiable edge
pub data Flows (k : Problem) : Node → Node → Type 0 where
  -- a value edge, but for the actuals of a call
  stays : {g : Part} {w : Way} {v : Var} → TakesPart k g → Contains (ways_of g) w → assigned_on w.deed v ≡ false → passed_on w.deed v ≡ false → Flows k (w.from, v) (w.to, v)
  -- from a differentiable occurrence in an assignment to its target
  assigned : {g : Part} {s : Standing} {x : Var} {subs : Terms} {e : Term} {v : Var} → TakesPart k g → Contains (statements_of g) s → s.act ≡ assign x subs e → In v (occurring e) → Flows k (point_before s.number, v) (point_after s.number, x)
  -- from an actual to the dummy at the entry of the unit
  passed : {f g : Part} {s : Standing} {args : Terms} {d : List ℕ} {a : Var} → TakesPart k f → CallsUnit k f g s args → Contains (bound g.unit.dummies args) (d, a) → Flows k (point_before s.number, a) (g.entry, plain d)
  -- and back from the dummy at its end
  handed : {f g : Part} {s : Standing} {args : Terms} {d : List ℕ} {a : Var} → TakesPart k f → CallsUnit k f g s args → Contains (bound g.unit.dummies args) (d, a) → Flows k (g.end, plain d) (point_after s.number, a)

-- an independent at the head's entry, and a dependent at its end
pub data AtEntry (k : Problem) : Node → Type 0 where
  independent : {g : Part} {d : List ℕ} → IsHead k g → Contains (flagged k.vars g.unit.dummies) d → AtEntry k (g.entry, plain d)

pub data AtEnd (k : Problem) : Node → Type 0 where
  dependent : {g : Part} {d : List ℕ} → IsHead k g → Contains (flagged k.outvars g.unit.dummies) d → AtEnd k (g.end, plain d)

-- the independents reach it
abbrev pub Varied : Problem → Node → Type 0
Varied k = Reached (AtEntry k) (Flows k)

-- the dependents are reached from it
abbrev pub Useful : Problem → Node → Type 0
Useful k = Reached (AtEnd k) (λ n m. Flows k m n)
