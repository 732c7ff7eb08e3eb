-- What flags of nodes say of a unit is what they tell.
use Rattle.std.proofs.Common.{◌≡◌, ℕ, List, [], Bool, refl, sym, ap}
use Rattle.std.specs.Prelude.{◌&&◌, slice_index_or}
use Rattle.adj_tree.specs.Code.{Var, plain}
use Rattle.def_names.specs.Numbers.{Vars, everything}
use Rattle.def_names.specs.Numbering.{point_before}
use Rattle.def_sweep.specs.Marks.{active_at}
use Rattle.def_flow.specs.Parts.{Part}
use Rattle.def_flow.specs.Problem.{Problem, TakesPart}
use Rattle.def_flow.specs.Activity.{Activity, IsPoint}
use Rattle.def_flow.specs.Held.{marks_of}
use Rattle.def_flow.specs.Live.{Liveness}
use Rattle.def_flow.specs.Rules.{Scope, Covers}
use Rattle.adj_flow.specs.NodeView.{told_at}
use Rattle.adj_flow.specs.Rows.{row_in}
use Rattle.adj_flow.specs.Scoped.{scope_by}
use Rattle.adj_flow.specs.Told.{told_in, told_of}
use Rattle.adj_flow.proofs.Scoping.{told_there}
use Rattle.adj_flow.proofs.Telling.{number_found}
use Rattle.adj_reach.specs.Edges.{flag}
use Rattle.adj_flow.specs.ActivityTold.{activity_told}
use Rattle.adj_tbr.specs.View.{active_by}
use Rattle.adj_tbr.specs.declared.found.Found.{Found}

-- the activity and the liveness that the flags tell
abbrev pub activity_by : Found → List Bool → Scope → ℕ → Activity
activity_by f useful o w = activity_told f.varied.now useful f.shadowed.now f.adjointed.now o w

abbrev pub liveness_by : Found → (ℕ → Vars) → Scope → ℕ → Liveness
liveness_by f needed o w = record { needed = needed; kept = flag f.kept.now; wanted = λ u d. told_of f.entry.now o w u (plain d) }

module _ (k : Problem) (vss : List (List (List ℕ))) (taking : List Bool) (w : ℕ) (y : Covers k (scope_by vss (flag taking) k.units)) where
  abbrev o : Scope
  o = scope_by vss (flag taking) k.units

  -- of a unit by its number
  pub told_here : (by : List Bool) (g : Part) → TakesPart k g → (v : Var) → told_at by w (row_in vss g) g.number v ≡ told_of by o w g.number v
  told_here by g t v = sym (ap (λ z. told_in by o w g.number z v) (number_found k o y g g.number t refl))

  -- the active variables
  pub active_same : (f : Found) (useful : List Bool) (needed : ℕ → Vars) (g : Part) (i : ℕ) → TakesPart k g → IsPoint g (point_before i) →
      active_by f w (row_in vss g) i ≡ active_at (marks_of (activity_by f useful o w) (liveness_by f needed o w) (λ j. everything) g.number) i
  active_same f useful needed g i t p = λ j v. told_there k o y f.varied.now w (slice_index_or vss g.number []) g (point_before i) t p refl v j && told_here f.shadowed.now g t v j
