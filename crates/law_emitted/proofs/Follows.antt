-- What sweeps take from marks and callees: shadows that there are, and names of the units that are made.
use Rattle.std.specs.Prelude.{◌≡◌, ℕ, suc, List, true, false}
use Rattle.adj_tree.specs.Code.{Terms, Act, assign, choose, loop, during, call, runtime, Code, stop, step}
use Rattle.def_text.specs.Written.{IsName}
use Rattle.def_names.specs.Reserved.{is_runtime}
use Rattle.def_names.specs.Numbers.{next, behind}
use Rattle.def_sweep.specs.Plan.{Callee, Plan, is_emitted, names_of, actuals_named, Schedules, reversed_by, ByStep}
use Rattle.def_sweep.specs.Rows.{with_shadows}
use Rattle.law_emitted.specs.Shadowed.{AreCarried}

-- a name that a CALL may have
abbrev pub IsCallable : List ℕ → Type 0
IsCallable name = IsName name × (is_runtime name ≡ false)

-- A unit with shadows, of this name, is called with the shadows of these actuals: it may be called, the actuals have the shadows, and B holds of the CALL.
abbrev pub TurnsBack : (List ℕ → Terms → Type 0) → Plan → Callee → List ℕ → List (List ℕ) → Type 0
TurnsBack B p g name given = IsCallable name × (AreCarried g.shadowed p.marks.shadowed g.dummies given × B name (with_shadows g.shadowed g.dummies given))

-- and of each CALL with shadows B holds, and C of each other
abbrev mutual
  -- An adjointed assignment has a target with a shadow; an adjointed call names an adjoint, or a forward and a backward unit where it is split; a loop that is
  -- reversed by a schedule calls its step unit and the adjoint of that, whether the step call is kept or not.
  pub FollowsActBy : Schedules → (List ℕ → Terms → Type 0) → (List ℕ → Terms → Type 0) → Plan → ℕ → Act → Type 0
  FollowsActBy r C B p i (assign x subs e) = p.marks.adjointed i ≡ true → p.marks.shadowed x ≡ true
  FollowsActBy r C B p i (choose c a b) = FollowsBy r C B p (suc i) a × FollowsBy r C B p (behind (suc i) a) b
  FollowsActBy r C B p i (loop x a b c body m) = ByStep (reversed_by r p.marks.adjointed i body m) (Unit {0}) (λ s. C s.name (actuals_named s.given) × TurnsBack B p (p.callees s.name) (p.callees s.name).adjoint s.given) × FollowsBy r C B p (suc i) body
  FollowsActBy r C B p i (during c body) = FollowsBy r C B p (suc i) body
  FollowsActBy r C B p i (call name args) =
      let g = p.callees name in
      (p.marks.kept i ≡ true → p.marks.split i ≡ false → C name args)
      × ((p.marks.adjointed i ≡ true → p.marks.split i ≡ false → TurnsBack B p g g.adjoint (names_of args))
      × (is_emitted p.marks i ≡ true → p.marks.split i ≡ true → (IsCallable g.forth × C g.forth args) × TurnsBack B p g g.back (names_of args)))
  FollowsActBy r C B p i (runtime o) = Unit {0}

  pub FollowsBy : Schedules → (List ℕ → Terms → Type 0) → (List ℕ → Terms → Type 0) → Plan → ℕ → Code → Type 0
  FollowsBy r C B p i stop = Unit {0}
  FollowsBy r C B p i (step line a rest) = FollowsActBy r C B p i a × FollowsBy r C B p (next i a) rest
