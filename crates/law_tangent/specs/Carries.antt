-- How the laws of the sweeps give the flow of tangents: what the analyses say is varied, as far as it is carried.
use Rattle.std.specs.Prelude.{◌≡◌, ℕ, suc, List, ◌&&◌}
use Rattle.adj_tree.specs.Code.{plain, Act, assign, choose, loop, during, call, runtime, Code, stop, step}
use Rattle.def_names.specs.Numbers.{Vars, next, behind}
use Rattle.def_names.specs.Numbering.{point_after}
use Rattle.def_sweep.specs.Facts.{In, Facts}
use Rattle.def_meaning.specs.Apart.{AreApart}
use Rattle.def_sweep.specs.Plan.{IsActual, actuals_named, Schedules}
use Rattle.def_sweep.specs.Callees.{CalleeFacts}
use Rattle.law_sweep.specs.Laws.{ListLawsBy}
use Rattle.def_tangent.specs.Forward.{Callee}
use Rattle.law_tangent.specs.Laws.{CalleeFlow, ListFlows}

-- the variables of two sets
abbrev pub both : Vars → Vars → Vars
both a b v = a v && b v

-- what may have a tangent at a point: what is varied there and carries one
abbrev pub flow_of : Facts → Vars → ℕ → Vars
flow_of w on p = both (w.marks.varied p) on

-- a unit by its facts and what carries a tangent in it
abbrev pub callee_flow : CalleeFacts → Callee → CalleeFlow
callee_flow a g = record { callee = g; entry = both (a.facts.marks.varied a.entry) g.carried; end = both (a.facts.marks.varied a.end) g.carried }

-- a call: names apart, the dummies that are varied at the unit's entry carry a tangent, and so do the actuals of those that do
pub record CallCarries (on : Vars) (a : CalleeFacts) (g : Callee) (given : List (List ℕ)) : Type 0 where
  pub same : a.callee.dummies ≡ g.dummies
  pub apart : AreApart g.dummies
  pub given_apart : AreApart given
  pub entry : (d : List ℕ) → In (plain d) (a.facts.marks.varied a.entry) → In (plain d) g.carried
  pub lends : (d x : List ℕ) → IsActual g.dummies given d x → In (plain d) g.carried → In (plain x) on

abbrev mutual
  -- what an assignment makes varied carries a tangent
  pub ActCarries : (List ℕ → CalleeFacts) → (List ℕ → Callee) → Facts → Vars → ℕ → Act → Type 0
  ActCarries a g w on i (assign x subs e) = In x (w.marks.varied (point_after i)) → In x on
  ActCarries a g w on i (choose c s t) = ListCarries a g w on (suc i) s × ListCarries a g w on (behind (suc i) s) t
  ActCarries a g w on i (loop x first last by body m) = ListCarries a g w on (suc i) body
  ActCarries a g w on i (during c body) = ListCarries a g w on (suc i) body
  ActCarries a g w on i (call name args) = (given : List (List ℕ)) → args ≡ actuals_named given → CallCarries on (a name) (g name) given
  ActCarries a g w on i (runtime r) = Unit {0}

  pub ListCarries : (List ℕ → CalleeFacts) → (List ℕ → Callee) → Facts → Vars → ℕ → Code → Type 0
  ListCarries a g w on i stop = Unit {0}
  ListCarries a g w on i (step line s rest) = ActCarries a g w on i s × ListCarries a g w on (next i s) rest

-- the laws of the sweeps, which exact analyses meet, give the flow of tangents
abbrev pub LawsFlow : Type 0
LawsFlow =
    (r : Schedules) (a : List ℕ → CalleeFacts) (g : List ℕ → Callee) (w : Facts) (on : Vars) (p i : ℕ) (c : Code) → ListLawsBy r a w p i c → ListCarries a g w on i c →
    ListFlows (λ n. callee_flow (a n) (g n)) (flow_of w on) on p i c
