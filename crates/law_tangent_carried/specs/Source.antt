-- What it means that a program is the tangent of one that isn't in kernel form, with a bound, and that what is emitted for the kernel, by exact analyses, is it.
use Rattle.std.specs.Prelude.{◌≡◌, ◌≤◌, ◌*◌, ℕ, ℤ, List, [], length, Bool, true, Some, None}
use Rattle.adj_tree.specs.Code.{Procedure}
use Rattle.def_meaning.specs.Written.{find_unit}
use Rattle.def_meaning.specs.Trap.{Trap}
use Rattle.def_meaning.specs.Numbers.{words, duals}
use Rattle.def_meaning.specs.Scene.{Stand, Done, Trapped}
use Rattle.def_meaning.specs.Units.{Slot, Output, fits, run_unit}
use Rattle.def_sweep.specs.Tangents.{AreAlike, IsDirection, with_direction}
use Rattle.def_sweep.specs.MarkedAdjoint.{shadow_flags, joined_by}
use Rattle.def_names.specs.HeadFaults.{unit_number}
use Rattle.def_names.specs.Numbers.{Vars}
use Rattle.def_kernel.specs.Kernel.{EachUnit}
use Rattle.def_kernel.specs.Stepped.{kernel_of}
use Rattle.def_planned.specs.Planned.{kernel_problem}
use Rattle.def_tangent.specs.Program.{Carried, tangent_name, tangent_program}
use Rattle.def_tangent.specs.IsTangent.{AreAllWords, AreHandedIn, TangentTraps}
use Rattle.law_tangent.specs.IsTangent.{TangentDone, IsTangent}
use Rattle.def_flow.specs.Carried.{IsCarrying, carried_by}
use Rattle.law_kernel.specs.Sound.{IsAccepted}
use Rattle.law_tangent.specs.Sizes.{AreLight}

-- where the source's dual run gives this, the run of the tangent gives its values and tangents; the statements are counted by those of the
-- kernel's dual run, which with enough of them is done, too
pub record SourceDone (w : ℕ) (flags : List Bool) (ks qs : List Procedure) (v a : Procedure) (dual : List (Slot (ℤ × ℤ))) (input : List (Slot ℤ)) (out : Output (ℤ × ℤ)) (dummies : ℕ) : Type 0 where
  pub kernel_output : Output (ℤ × ℤ)
  pub kernel_used : ℕ
  pub enough : ℕ
  pub kernel_runs : (k : ℕ) → enough ≤ k → run_unit duals ks v dual [] None k ≡ Done kernel_output kernel_used
  pub done : TangentDone w flags qs a input out kernel_used dummies

-- The unit of qs that has the name of the tangent of the head's kernel is the tangent of the head, which is the unit of this name in ps. Values,
-- tangents and traps are those of the program's own dual run; what the run of the tangent takes is compared with the kernel's.
pub record IsTangentFor (w : ℕ) (on : Carried) (ps : List Procedure) (name : List ℕ) (vars : List Bool) (qs : List Procedure) : Type 0 where
  pub unit : Procedure
  pub is_head : find_unit ps name ≡ Some unit
  pub kernel : Procedure
  pub becomes : find_unit (kernel_of ps) name ≡ Some kernel
  pub tangent : Procedure
  pub is_there : find_unit qs (tangent_name (kernel_of ps) name) ≡ Some tangent
  pub done : (input z : List (Slot ℤ)) (d : List (List ℤ)) → fits words unit input ≡ true → AreAlike input z → IsDirection vars input d → AreAllWords d → AreHandedIn vars d z → (n used : ℕ) (out : Output (ℤ × ℤ)) →
      run_unit duals ps unit (with_direction input d) [] None n ≡ Done out used →
      SourceDone w (shadow_flags (on name) unit.dummies) (kernel_of ps) qs kernel tangent (with_direction input d) (joined_by (shadow_flags (on name) unit.dummies) input z) out (length unit.dummies)
  pub traps : (input z : List (Slot ℤ)) (d : List (List ℤ)) → fits words unit input ≡ true → AreAlike input z → IsDirection vars input d → AreAllWords d → AreHandedIn vars d z → (n line : ℕ) (t : Trap) (x : Stand) →
      run_unit duals ps unit (with_direction input d) [] None n ≡ Trapped t line x → TangentTraps qs tangent (joined_by (shadow_flags (on name) unit.dummies) input z) line

-- a tangent of the kernel of an accepted program is one of the program
abbrev pub KernelsTangent : Type 0
KernelsTangent =
    (w : ℕ) (on : Carried) (ps : List Procedure) → IsAccepted ps → (name : List ℕ) (u : Procedure) → find_unit ps name ≡ Some u → (vars : List Bool) (qs : List Procedure) →
    IsTangent w on (kernel_of ps) (unit_number (kernel_of ps) name) vars qs → IsTangentFor w on ps name vars qs

-- so what is emitted for the kernel, by exact analyses, is a tangent of the program
abbrev pub AcceptedIsTangent : Type 0
AcceptedIsTangent =
    (ps : List Procedure) → IsAccepted ps → (name : List ℕ) (u : Procedure) → find_unit ps name ≡ Some u → (vars outvars : List Bool) (varied on : ℕ → Vars) → IsCarrying (kernel_problem ps name vars outvars) varied on →
    (m : ℕ) → 1 ≤ m → EachUnit (λ v. AreLight m v.body) (kernel_of ps) →
    let c = carried_by (kernel_of ps) on in IsTangentFor (2 * m) c ps name vars (tangent_program c (kernel_of ps) (unit_number (kernel_of ps) name) vars)
