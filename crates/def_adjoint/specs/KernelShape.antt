-- The shape of what is emitted for the kernel of a program.
use Rattle.std.specs.Prelude.{◌≡◌, ℕ, List, Bool, Some}
use Rattle.adj_tree.specs.Code.{Procedure}
use Rattle.def_meaning.specs.Written.{find_unit}
use Rattle.def_kernel.specs.Stepped.{kernel_of}
use Rattle.def_sweep.specs.Marking.{ProgramMarks}
use Rattle.def_adjoint.specs.Shape.{HasShape}

-- a program has the shape of one that is emitted for the kernel of ps, with the unit of a name as the head
pub record HasKernelShape (schedules : Bool) (m : ProgramMarks) (ps : List Procedure) (name : List ℕ) (vars outvars : List Bool) (qs : List Procedure) : Type 0 where
  pub head : Procedure
  pub is_head : find_unit (kernel_of ps) name ≡ Some head
  pub shape : HasShape schedules m (kernel_of ps) head vars outvars qs
