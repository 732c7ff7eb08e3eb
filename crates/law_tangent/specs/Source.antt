-- What the theorem on whole programs asks of a kernel that was checked, of what may have a tangent in it, and of what carries one.
use Rattle.std.specs.Prelude.{◌≡◌, ◌*◌, ◌≤◌, ℕ, List, [], ◌∷◌, Bool, true, None, Some}
use Rattle.adj_tree.specs.Code.{plain, Procedure}
use Rattle.def_meaning.specs.Written.{find_unit}
use Rattle.def_names.specs.Numbers.{Vars}
use Rattle.def_sweep.specs.Facts.{In, Within}
use Rattle.def_sweep.specs.MarkedAdjoint.{IsMarked}
use Rattle.def_sweep.specs.Declared.{unit_at}
use Rattle.def_sweep.specs.Callees.{nothing}
use Rattle.law_sweep.specs.Laws.{last_point}
use Rattle.def_sweep.specs.Marking.{full_facts, first_statement, entry_point, end_point}
use Rattle.law_sweep.specs.Source.{SourceFits}
use Rattle.law_tangent.specs.Laws.{CalleeFlow, WayFlows, ListFlows}
use Rattle.law_tangent.specs.Sizes.{AreLight}
use Rattle.def_tangent.specs.Program.{Carried, callee_in, has_tangent, tangent_program}
use Rattle.law_tangent.specs.IsTangent.{IsTangent}

-- what calls know of the unit of a name, where these variables may have a tangent at the points of the program
abbrev pub flow_in : Carried → (ℕ → Vars) → List Procedure → List ℕ → CalleeFlow
flow_in on varied ps name = record { callee = callee_in on ps name; entry = varied (entry_point ps name); end = varied (end_point ps name) }

-- tangents flow through the unit of a name; what may have one at its entry or its end carries one
pub record UnitFlows (on : Carried) (varied : ℕ → Vars) (ps : List Procedure) (name : List ℕ) (u : Procedure) : Type 0 where
  pub flows : ListFlows (flow_in on varied ps) varied (on name) (entry_point ps name) (first_statement ps name) u.body
  pub ends : WayFlows varied nothing (last_point (entry_point ps name) (first_statement ps name) u.body) (end_point ps name)
  pub enters : Within (varied (entry_point ps name)) (on name)
  pub leaves : Within (varied (end_point ps name)) (on name)

-- no assignment has m or more nodes
pub record TangentFits (m : ℕ) (on : Carried) (varied : ℕ → Vars) (ps : List Procedure) (head : Procedure) (vars : List Bool) : Type 0 where
  pub there : find_unit ps head.name ≡ Some head
  -- the text is as the law on adjoints asks, with any unit as the head
  pub source : (name : List ℕ) (u : Procedure) → find_unit ps name ≡ Some u → SourceFits (λ line. None) full_facts ps u
  pub some : 1 ≤ m
  pub light : (name : List ℕ) (u : Procedure) → find_unit ps name ≡ Some u → AreLight m u.body
  -- of each unit whose tangent is emitted
  pub units : (name : List ℕ) (u : Procedure) → find_unit ps name ≡ Some u → has_tangent on ps head.name name ≡ true → UnitFlows on varied ps name u
  -- the independents may have a tangent at the head's entry
  pub begins : (x : List ℕ) → IsMarked head.dummies vars x → In (plain x) (varied (entry_point ps head.name))

-- then what is emitted is the tangent of the program for the head
abbrev pub EmittedIsTangent : Type 0
EmittedIsTangent =
    (m : ℕ) (on : Carried) (varied : ℕ → Vars) (ps : List Procedure) (head : ℕ) (vars : List Bool) (u : Procedure) → unit_at head ps ≡ u ∷ [] → TangentFits m on varied ps u vars → IsTangent (2 * m) on ps head vars (tangent_program on ps head vars)
