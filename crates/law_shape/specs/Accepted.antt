-- The shape of what is emitted for the kernel of an accepted program. (docs/THEOREMS.md, "The shape of what is emitted")
use Rattle.std.specs.Prelude.{◌≡◌, ℕ, List, Bool, Some, false}
use Rattle.adj_tree.specs.Code.{Procedure}
use Rattle.adj_tree.specs.Lines.{unlined}
use Rattle.def_meaning.specs.Written.{find_unit}
use Rattle.def_names.specs.HeadFaults.{unit_number}
use Rattle.def_names.specs.Numbers.{Vars}
use Rattle.law_kernel.specs.Sound.{IsAccepted}
use Rattle.def_kernel.specs.Stepped.{kernel_of}
use Rattle.def_sweep.specs.Program.{emitted_program_with}
use Rattle.def_flow.specs.Activity.{Activity}
use Rattle.def_flow.specs.Live.{Liveness}
use Rattle.def_flow.specs.Analysed.{Analysed}
use Rattle.def_planned.specs.ProgramFacts.{program_facts}
use Rattle.law_emitted.specs.Splits.{AllMaySplit}
use Rattle.def_adjoint.specs.KernelShape.{HasKernelShape}

-- so has what is emitted for it by the marks of exact analyses, whether marked loops are reversed by schedules or are loops as others, and
-- what differs from that in line numbers alone
abbrev pub AcceptedHasShape : Type 0
AcceptedHasShape =
    (schedules : Bool) (ps : List Procedure) → IsAccepted ps → (name : List ℕ) (u : Procedure) → find_unit ps name ≡ Some u → (vars outvars : List Bool) (split : ℕ → Bool) →
    (a : Activity) (l : Liveness) (saved held : ℕ → Vars) → Analysed (record { units = kernel_of ps; head = unit_number (kernel_of ps) name; vars = vars; outvars = outvars; split = split }) a l saved held →
    let marks = (program_facts (kernel_of ps) split a l saved held).marks in
    AllMaySplit schedules marks (kernel_of ps) (kernel_of ps) → (qs : List Procedure) → unlined (emitted_program_with schedules marks (kernel_of ps) (unit_number (kernel_of ps) name) vars outvars) ≡ unlined qs → HasKernelShape schedules marks ps name vars outvars qs
