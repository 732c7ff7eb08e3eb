-- What it means that a program is an adjoint of a program of a user.
use Rattle.std.specs.Prelude.{◌≡◌, ℕ, ℤ, List, [], Bool, true, false, Some, None}
use Rattle.adj_tree.specs.Code.{name_eq, Procedure}
use Rattle.def_meaning.specs.Numbers.{words}
use Rattle.def_meaning.specs.Scene.{Done}
use Rattle.def_meaning.specs.Written.{find_unit}
use Rattle.def_meaning.specs.Units.{Slot, Output, fits, run_unit}
use Rattle.def_sweep.specs.Tangents.{AreAlike}
use Rattle.def_sweep.specs.MarkedProgram.{shadows_behind}
use Rattle.def_sweep.specs.MarkedAdjoint.{shadow_flags}
use Rattle.def_sweep.specs.Reversals.{StepUnits, ReversedLines}
use Rattle.def_sweep.specs.Names.{adjoint_name}
use Rattle.def_sweep.specs.Marking.{ProgramMarks}
use Rattle.def_sweep.specs.Adjoint.{TransposesBy}
use Rattle.def_kernel.specs.Stepped.{kernel_of}
use Rattle.def_adjoint.specs.Shape.{shadow_table}

-- The unit of qs that bears the name which the adjoint of the head's kernel gets is the adjoint of the head, the unit of a name in ps: it
-- has each dummy of the head followed by its shadow, if it has one, and transposes the derivative of the head on every input on which the
-- head's run is done. `lines` are those at which stand the loops that are reversed by a schedule, and the marks are those of the kernel.
pub record IsAdjointOf (lines : ReversedLines) (m : ProgramMarks) (ps : List Procedure) (name : List ℕ) (vars outvars : List Bool) (qs : List Procedure) : Type 0 where
  pub unit : Procedure
  pub is_head : find_unit ps name ≡ Some unit
  -- what the head becomes in the kernel, which gives names
  pub kernel : Procedure
  pub becomes : find_unit (kernel_of ps) name ≡ Some kernel
  pub adjoint : Procedure
  pub is_there : find_unit qs (adjoint_name (kernel_of ps) kernel) ≡ Some adjoint
  pub dummies : adjoint.dummies ≡ shadows_behind (m.shadowed name) (shadow_table m (kernel_of ps) kernel kernel) unit.dummies
  pub transposes : (input shadows : List (Slot ℤ)) → fits words unit input ≡ true → AreAlike input shadows → (k used : ℕ) (output : Output ℤ) → run_unit words ps unit input [] None k ≡ Done output used → TransposesBy lines (shadow_flags (m.shadowed name) unit.dummies) ps unit vars outvars qs adjoint input shadows output.events

-- where a loop is reversed by a schedule, its step unit and the adjoint of that have different names
abbrev pub HaveOwnNames : ReversedLines → Type 0
HaveOwnNames lines = (line : ℕ) (step : StepUnits) → lines line ≡ Some step → (name_eq step.unit step.adjoint ≡ false) × (name_eq step.adjoint step.unit ≡ false)
