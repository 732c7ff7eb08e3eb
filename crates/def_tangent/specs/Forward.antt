-- The tangents of statements: what is put before a statement, and what becomes of the statement.
use Rattle.std.specs.Prelude.{ℕ, pos, List, [], ◌∷◌, Bool, false, ◌||◌, if◌then◌else◌}
use Rattle.adj_tree.specs.Code.{plain, shadow, lit, none, Act, assign, choose, loop, during, call, runtime, Code, stop, step}
use Rattle.def_meaning.specs.Append.{◌+++◌, one}
use Rattle.def_names.specs.Numbers.{Vars}
use Rattle.def_sweep.specs.Marked.{code_if}
use Rattle.def_sweep.specs.Plan.{names_of}
use Rattle.def_sweep.specs.Bindings.{bindings, actuals_in}
use Rattle.def_tangent.specs.TangentOf.{before_assignment}

-- what the tangent of a call knows of the unit that is called
pub record Callee : Type 0 where
  -- the name of its tangent
  pub tangent : List ℕ
  pub dummies : List (List ℕ)
  -- its variables that carry a tangent
  pub carried : Vars

-- what the tangent of a unit goes by: its variables that carry a tangent, and the units by their names
pub record Plan : Type 0 where
  pub carried : Vars
  pub callees : List ℕ → Callee

-- whether one of the dummies carries a tangent
abbrev pub takes_some : Vars → List (List ℕ) → Bool
takes_some on [] = false
takes_some on (d ∷ ds) = on (plain d) || takes_some on ds

abbrev mutual
  -- What stands before a statement: before an assignment to a variable that carries a tangent the assignment's tangent, and before a DO whose
  -- variable carries one the assignment of 0 to it. Before any other statement stands nothing.
  pub before_act : Plan → ℕ → Act → Code
  before_act p line (assign (plain x) subs e) = code_if (p.carried (plain x)) (before_assignment p.carried x subs e line)
  before_act p line (loop (plain x) first last by body m) = code_if (p.carried (plain x)) (one line (assign (shadow x) none (lit (pos 0))))
  before_act p line a = stop

  -- What stands in its place: the statement itself, with the tangents of its bodies. A call of a unit with a dummy that carries a tangent becomes
  -- a call of that unit's tangent, where each actual is followed by its tangent if its dummy carries one.
  pub tangent_act : Plan → Act → Act
  tangent_act p (assign x subs e) = assign x subs e
  tangent_act p (choose c a b) = choose c (tangents p a) (tangents p b)
  tangent_act p (loop x first last by body m) = loop x first last by (tangents p body) m
  tangent_act p (during c body) = during c (tangents p body)
  tangent_act p (call name args) =
      let g = p.callees name in
      if takes_some g.carried g.dummies then call g.tangent (actuals_in (bindings g.carried g.dummies (names_of args))) else call name args
  tangent_act p (runtime r) = runtime r

  pub tangents : Plan → Code → Code
  tangents p stop = stop
  tangents p (step line a rest) = before_act p line a +++ step line (tangent_act p a) (tangents p rest)
