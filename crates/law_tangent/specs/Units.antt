-- What is asked of the units of a program whose tangents are made, and of the program that is emitted.
use Rattle.std.specs.Prelude.{◌≡◌, ℕ, List, [], true, false, Bool, Some, IsTrue, if◌then◌else◌}
use Rattle.adj_tree.specs.Code.{plain, Terms, Code, Procedure}
use Rattle.def_meaning.specs.Written.{find_unit, handed_back}
use Rattle.def_meaning.specs.Units.{declared}
use Rattle.def_names.specs.Numbers.{Vars, everything}
use Rattle.def_sweep.specs.Facts.{Within}
use Rattle.def_meaning.specs.Apart.{AreApart}
use Rattle.def_sweep.specs.Plan.{IsActual, actuals_named}
use Rattle.def_sweep.specs.Callees.{nothing}
use Rattle.law_sweep.specs.Laws.{last_point}
use Rattle.law_sweep.specs.Kernel.{AsMany}
use Rattle.law_sweep.specs.Emitted.{HasUnit}
use Rattle.def_tangent.specs.Forward.{Callee, Plan, takes_some, tangents}
use Rattle.law_tangent.specs.Counts.{AreFew}
use Rattle.law_tangent.specs.Laws.{CalleeFlow, WayFlows, ListFlows, ListTexts}

-- the tangent of a unit as what an adjoint knows of a unit: what carries a tangent has a shadow
abbrev pub as_shadowed : Callee → Rattle.def_sweep.specs.Plan.Callee
as_shadowed g = record { adjoint = g.tangent; forth = g.tangent; back = g.tangent; dummies = g.dummies; written = everything; members = everything; shadowed = g.carried }

-- the emitted program has the tangent of the unit v: each dummy is followed by its tangent, if it carries one, and the body is this under
-- names of its own
abbrev pub HasTangent : List Procedure → Procedure → Callee → Code → Type 0
HasTangent qs v g code = HasUnit qs v g.tangent (as_shadowed g) g.carried code

-- a call of a unit that takes part and counts as called, of names apart; a scalar is given for a scalar
pub record CallText (ps : List Procedure) (reached called : List ℕ → Bool) (arrays : Vars) (ds : List (List ℕ)) (name : List ℕ) (given : List (List ℕ)) : Type 0 where
  pub unit : Procedure
  pub found : find_unit ps name ≡ Some unit
  pub there : IsTrue (reached name)
  pub calls : IsTrue (called name)
  pub apart : AreApart given
  pub many : AsMany ds given
  pub ranks : (d a : List ℕ) → IsActual ds given d a → declared unit.declarations (plain d) ≡ [] → arrays (plain a) ≡ false

-- where `dummies` has those of each unit
abbrev pub CallTexts : List Procedure → (List ℕ → Bool) → (List ℕ → Bool) → Vars → (List ℕ → List (List ℕ)) → List ℕ → Terms → Type 0
CallTexts ps reached called arrays dummies name args = (given : List (List ℕ)) × ((args ≡ actuals_named given) × CallText ps reached called arrays (dummies name) name given)

-- the plan of the unit of a name
abbrev pub plan_of : (List ℕ → CalleeFlow) → List ℕ → Plan
plan_of g name = record { carried = (g name).callee.carried; callees = λ n. (g n).callee }

-- which units a call may name: where a dummy carries a tangent those that have a tangent, elsewhere those that are emitted as they are
abbrev pub goes : (List ℕ → CalleeFlow) → (reached still : List ℕ → Bool) → List ℕ → Bool
goes g reached still name = if takes_some (g name).callee.carried (g name).callee.dummies then reached name else still name

-- What is asked of a unit whose tangent is made, with the number of its first statement and the points of its entry and its end. No statement
-- becomes more than w.
pub record UnitFits (w : ℕ) (ps qs : List Procedure) (reached called still : List ℕ → Bool) (g : List ℕ → CalleeFlow) (f : ℕ → Vars) (name : List ℕ) (v : Procedure) (first entry end : ℕ) (vars : List (List ℕ)) (arrays : Vars) : Type 0 where
  pub dummies : v.dummies ≡ (g name).callee.dummies
  pub apart : AreApart (g name).callee.dummies
  pub scalars : (x : List ℕ) → arrays (plain x) ≡ false → declared v.declarations (plain x) ≡ []
  -- what may have a tangent at its entry and at its end
  pub begins : Within (g name).entry (f entry)
  pub finishes : Within (f end) (g name).end
  pub flows : ListFlows g f (g name).callee.carried entry first v.body
  pub ends : WayFlows f nothing (last_point entry first v.body) end
  pub texts : ListTexts (CallTexts ps (goes g reached still) called arrays (λ n. (g n).callee.dummies)) vars arrays (handed_back ps) v.body
  pub few : AreFew w (plan_of g name) v.body
  -- where the unit is called (as the head is not), its tangent is there
  pub tangent : IsTrue (called name) → HasTangent qs v (g name).callee (tangents (plan_of g name) v.body)

-- what is asked of a unit that is emitted as it is: it calls only such units
pub record PlainFits (ps qs : List Procedure) (still : List ℕ → Bool) (dummies : List ℕ → List (List ℕ)) (name : List ℕ) (v : Procedure) (vars : List (List ℕ)) (arrays : Vars) : Type 0 where
  pub found : find_unit qs name ≡ Some v
  pub same : v.dummies ≡ dummies name
  pub apart : AreApart (dummies name)
  pub scalars : (x : List ℕ) → arrays (plain x) ≡ false → declared v.declarations (plain x) ≡ []
  pub texts : ListTexts (CallTexts ps still (λ n. true) arrays dummies) vars arrays (handed_back ps) v.body
