-- Line numbers don't matter, but that a trap is then at another line: a text that is written and read again has lines of its own.
use Rattle.std.specs.Prelude.{◌≡◌, ◌≤◌, ◌*◌, ℕ, ℤ, List, [], length, Bool, true, Some, None}
use Rattle.adj_tree.specs.Code.{Procedure}
use Rattle.adj_tree.specs.Lines.{unlined}
use Rattle.def_meaning.specs.Written.{find_unit}
use Rattle.def_meaning.specs.Trap.{Trap}
use Rattle.def_meaning.specs.Numbers.{words, duals}
use Rattle.def_meaning.specs.Scene.{Stand, Done, Trapped}
use Rattle.def_meaning.specs.Units.{Slot, Output, fits, run_unit}
use Rattle.def_sweep.specs.Tangents.{AreAlike, IsDirection, with_direction}
use Rattle.def_sweep.specs.MarkedAdjoint.{shadow_flags, joined_by}
use Rattle.def_names.specs.HeadFaults.{unit_number}
use Rattle.def_names.specs.Numbers.{Vars}
use Rattle.def_kernel.specs.Kernel.{EachUnit}
use Rattle.def_kernel.specs.Stepped.{kernel_of}
use Rattle.def_planned.specs.Planned.{kernel_problem}
use Rattle.def_tangent.specs.Program.{Carried, tangent_name, tangent_program}
use Rattle.def_tangent.specs.IsTangent.{AreAllWords, AreHandedIn, TangentTraps}
use Rattle.def_flow.specs.Carried.{IsCarrying, carried_by}
use Rattle.law_tangent_carried.specs.Source.{SourceDone, IsTangentFor}
use Rattle.law_kernel.specs.Sound.{IsAccepted}
use Rattle.law_tangent.specs.Sizes.{AreLight}

-- the same as IsTangentFor, where a trap may be at any line
pub record IsTangentRead (w : ℕ) (on : Carried) (ps : List Procedure) (name : List ℕ) (vars : List Bool) (qs : List Procedure) : Type 0 where
  pub unit : Procedure
  pub is_head : find_unit ps name ≡ Some unit
  pub kernel : Procedure
  pub becomes : find_unit (kernel_of ps) name ≡ Some kernel
  pub tangent : Procedure
  pub is_there : find_unit qs (tangent_name (kernel_of ps) name) ≡ Some tangent
  pub done : (input z : List (Slot ℤ)) (d : List (List ℤ)) → fits words unit input ≡ true → AreAlike input z → IsDirection vars input d → AreAllWords d → AreHandedIn vars d z → (n used : ℕ) (out : Output (ℤ × ℤ)) →
      run_unit duals ps unit (with_direction input d) [] None n ≡ Done out used →
      SourceDone w (shadow_flags (on name) unit.dummies) (kernel_of ps) qs kernel tangent (with_direction input d) (joined_by (shadow_flags (on name) unit.dummies) input z) out (length unit.dummies)
  pub traps : (input z : List (Slot ℤ)) (d : List (List ℤ)) → fits words unit input ≡ true → AreAlike input z → IsDirection vars input d → AreAllWords d → AreHandedIn vars d z → (n line : ℕ) (t : Trap) (x : Stand) →
      run_unit duals ps unit (with_direction input d) [] None n ≡ Trapped t line x → (at : ℕ) × TangentTraps qs tangent (joined_by (shadow_flags (on name) unit.dummies) input z) at

-- a tangent is one where its lines bear other numbers
abbrev pub OtherLines : Type 0
OtherLines =
    (w : ℕ) (on : Carried) (ps : List Procedure) (name : List ℕ) (vars : List Bool) (qs others : List Procedure) → unlined qs ≡ unlined others → IsTangentFor w on ps name vars qs → IsTangentRead w on ps name vars others

-- so what differs in line numbers alone from what is emitted for the kernel of an accepted program is a tangent of the program
abbrev pub AcceptedReads : Type 0
AcceptedReads =
    (ps : List Procedure) → IsAccepted ps → (name : List ℕ) (u : Procedure) → find_unit ps name ≡ Some u → (vars outvars : List Bool) (varied on : ℕ → Vars) → IsCarrying (kernel_problem ps name vars outvars) varied on →
    (m : ℕ) → 1 ≤ m → EachUnit (λ v. AreLight m v.body) (kernel_of ps) → (qs : List Procedure) →
    let c = carried_by (kernel_of ps) on in unlined (tangent_program c (kernel_of ps) (unit_number (kernel_of ps) name) vars) ≡ unlined qs → IsTangentRead (2 * m) c ps name vars qs
