-- Which variables have a shadow, and which statements an adjoint. (docs/ANALYSES.md, "Activity")
use Rattle.std.specs.Prelude.{◌≡◌, ◌↔◌, ◌⊎◌, ℕ, List, Bool, true, false, ◌&&◌, Contains}
use Rattle.adj_tree.specs.Code.{Var, plain, Terms, Term, Code, Mark, assign, loop}
use Rattle.def_names.specs.Numbers.{Vars, everything}
use Rattle.def_sweep.specs.Marks.{Marks}
use Rattle.def_names.specs.Numbering.{point_before}
use Rattle.def_sweep.specs.Facts.{In, is_adjointed}
use Rattle.adj_reach.specs.Reached.{Reached}
use Rattle.def_flow.specs.Parts.{Part}
use Rattle.def_flow.specs.Ways.{Way}
use Rattle.def_flow.specs.Standing.{Place, outermost, part_of, turn_of, Standing}
use Rattle.def_flow.specs.Problem.{Problem, statements_of, ways_of, CallsUnit, IsHead, TakesPart, flagged, bound}
use Rattle.def_flow.specs.Flow.{Varied, Useful}

-- what the analysis says: varied and useful variables by point, adjointed statements, variables with a shadow by the number of their unit
pub record Activity : Type 0 where
  pub varied : ℕ → Vars
  pub useful : ℕ → Vars
  pub adjointed : ℕ → Bool
  pub shadowed : ℕ → Vars

-- the marks of the u-th unit by it, where everything is kept and saved
abbrev pub activity_marks : Activity → ℕ → Marks
activity_marks a u = record {
  kept = λ i. true;
  adjointed = a.adjointed;
  split = λ i. false;
  saved = λ i. everything;
  varied = a.varied;
  useful = a.useful;
  shadowed = a.shadowed u;
}

-- ---- shadows

-- p is a point of the unit
abbrev pub IsPoint : Part → ℕ → Type 0
IsPoint g p = (w : Way) × Contains (ways_of g) w × ((w.from ≡ p) ⊎ (w.to ≡ p))

-- a variable of the unit of this number has a shadow outright
pub data HasShadow (k : Problem) (varied useful : ℕ → Vars) : ℕ × Var → Type 0 where
  independent : {g : Part} {d : List ℕ} → IsHead k g → Contains (flagged k.vars g.unit.dummies) d → HasShadow k varied useful (g.number, plain d)
  dependent : {g : Part} {d : List ℕ} → IsHead k g → Contains (flagged k.outvars g.unit.dummies) d → HasShadow k varied useful (g.number, plain d)
  -- it is varied at some point and useful at some point of its unit
  active : {g : Part} {p q : ℕ} {v : Var} → TakesPart k g → IsPoint g p → IsPoint g q → In v (varied p) → In v (useful q) → HasShadow k varied useful (g.number, v)

pub data LendsShadow (k : Problem) (varied : ℕ → Vars) : ℕ × Var → ℕ × Var → Type 0 where
  -- a dummy to its actual in each call
  handed : {f g : Part} {s : Standing} {args : Terms} {d : List ℕ} {a : Var} → TakesPart k f → CallsUnit k f g s args → Contains (bound g.unit.dummies args) (d, a) → LendsShadow k varied (g.number, plain d) (f.number, a)
  -- an actual to its dummy, if that is varied at its unit's entry
  passed : {f g : Part} {s : Standing} {args : Terms} {d : List ℕ} {a : Var} → TakesPart k f → CallsUnit k f g s args → Contains (bound g.unit.dummies args) (d, a) → In (plain d) (varied g.entry) → LendsShadow k varied (f.number, a) (g.number, plain d)

abbrev pub Shadowed : Problem → (ℕ → Vars) → (ℕ → Vars) → ℕ × Var → Type 0
Shadowed k varied useful = Reached (HasShadow k varied useful) (LendsShadow k varied)

-- ---- adjoints

-- the i-th statement, an IF or a loop, holds what stands at the place
abbrev pub Holds : ℕ → Place → Type 0
Holds i outermost = ⊥
Holds i (part_of n) = i ≡ n
Holds i (turn_of n x) = i ≡ n

-- a DO resets the shadow of its variable where that is varied before it
abbrev pub resets : Activity → ℕ → ℕ → Var → Bool
resets a u i x = a.shadowed u x && a.varied (point_before i) x

-- what has an adjoint: a statement, or a unit that holds one
pub data Adjoint : Type 0 where
  statement : ℕ → Adjoint
  unit : ℕ → Adjoint

pub data IsAdjointed (k : Problem) (a : Activity) : Adjoint → Type 0 where
  -- an assignment, by its target before and after it
  assignment : {g : Part} {s : Standing} {x : Var} {subs : Terms} {e : Term} → TakesPart k g → Contains (statements_of g) s → s.act ≡ assign x subs e →
      is_adjointed (activity_marks a g.number) s.number x subs ≡ true → IsAdjointed k a (statement s.number)
  reset : {g : Part} {s : Standing} {x : Var} {first last by : Term} {body : Code} {m : Mark} → TakesPart k g → Contains (statements_of g) s → s.act ≡ loop x first last by body m →
      resets a g.number s.number x ≡ true → IsAdjointed k a (statement s.number)

pub data MakesAdjointed (k : Problem) : Adjoint → Adjoint → Type 0 where
  -- a statement makes the IF or the loop that holds it
  held : {g : Part} {s : Standing} {i : ℕ} → TakesPart k g → Contains (statements_of g) s → Holds i s.place → MakesAdjointed k (statement s.number) (statement i)
  -- and its unit
  inside : {g : Part} {s : Standing} → TakesPart k g → Contains (statements_of g) s → MakesAdjointed k (statement s.number) (unit g.number)
  -- and that each call of it
  called : {f g : Part} {t : Standing} {args : Terms} → TakesPart k f → CallsUnit k f g t args → MakesAdjointed k (unit g.number) (statement t.number)

abbrev pub Adjointed : Problem → Activity → Adjoint → Type 0
Adjointed k a = Reached (IsAdjointed k a) (MakesAdjointed k)

-- the i-th statement is a split call
abbrev pub split_at : Problem → Activity → ℕ → Bool
split_at k a i = k.split i && a.adjointed i

-- ---- all of it

-- the analysis says just that
pub record IsActivity (k : Problem) (a : Activity) : Type 0 where
  pub varied : (p : ℕ) (v : Var) → In v (a.varied p) ↔ Varied k (p, v)
  pub useful : (p : ℕ) (v : Var) → In v (a.useful p) ↔ Useful k (p, v)
  pub shadowed : (u : ℕ) (v : Var) → In v (a.shadowed u) ↔ Shadowed k a.varied a.useful (u, v)
  pub adjointed : (i : ℕ) → a.adjointed i ≡ true ↔ Adjointed k a (statement i)
