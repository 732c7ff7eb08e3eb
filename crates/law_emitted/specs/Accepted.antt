-- What it means that a program is the adjoint of one that isn't in kernel form, and that what is emitted for the kernel is it. (docs/THEOREMS.md, "Adjoints")
use Rattle.std.specs.Prelude.{◌≡◌, ℕ, List, Bool, Some, None}
use Rattle.adj_tree.specs.Code.{Procedure}
use Rattle.adj_tree.specs.Lines.{unlined}
use Rattle.def_meaning.specs.Written.{find_unit}
use Rattle.def_text.specs.Written.{IsWritten}
use Rattle.def_names.specs.Fault.{run_rules}
use Rattle.def_names.specs.Check.{IsSound}
use Rattle.def_names.specs.HeadFaults.{unit_number}
use Rattle.def_sweep.specs.Reversals.{ReversedLines}
use Rattle.def_sweep.specs.Marking.{ProgramMarks, full_marks}
use Rattle.def_sweep.specs.Program.{emitted_program}
use Rattle.def_sweep.specs.Adjoint.{IsAdjointWith}
use Rattle.def_kernel.specs.Stepped.{kernel_of}
use Rattle.law_kernel.specs.Sound.{IsAccepted}
use Rattle.law_emitted.specs.Checked.{IsChecked}
use Rattle.def_adjoint.specs.Adjoint.{IsAdjointOf}

-- with full marks, by which no loop is reversed by a schedule
abbrev pub IsFullAdjointOf : List Procedure → List ℕ → List Bool → List Bool → List Procedure → Type 0
IsFullAdjointOf ps name vars outvars qs = IsAdjointOf (λ line. None) full_marks ps name vars outvars qs

-- what is emitted for the kernel of a program, with full marks, for the unit of a name as the head
abbrev pub emitted_for : List Procedure → List ℕ → List Bool → List Bool → List Procedure
emitted_for ps name vars outvars = emitted_program full_marks (kernel_of ps) (unit_number (kernel_of ps) name) vars outvars

-- ---- laws

-- the kernel of an accepted program can be written as a text, has no fault as one that is run, and is in kernel form
abbrev pub KernelIsChecked : Type 0
KernelIsChecked = (ps : List Procedure) → IsAccepted ps → IsChecked run_rules (kernel_of ps)

-- an adjoint of the kernel is an adjoint of the program
abbrev pub KernelsAdjoint : Type 0
KernelsAdjoint =
    (schedules : Bool) (lines : ReversedLines) (m : ProgramMarks) (ps : List Procedure) → IsAccepted ps → (name : List ℕ) (u : Procedure) → find_unit ps name ≡ Some u → (vars outvars : List Bool) (qs : List Procedure) →
    IsAdjointWith schedules lines m (kernel_of ps) (unit_number (kernel_of ps) name) vars outvars qs → IsAdjointOf lines m ps name vars outvars qs

-- so what is emitted for the kernel is an adjoint of the program, with each of its units as the head, and so is what differs from it in
-- line numbers alone
abbrev pub EmittedIsAdjoint : Type 0
EmittedIsAdjoint =
    (ps : List Procedure) → IsAccepted ps → (name : List ℕ) (u : Procedure) → find_unit ps name ≡ Some u → (vars outvars : List Bool) (qs : List Procedure) →
    unlined (emitted_for ps name vars outvars) ≡ unlined qs → IsFullAdjointOf ps name vars outvars qs

-- it can be written as a text
abbrev pub EmittedIsWritten : Type 0
EmittedIsWritten = (ps : List Procedure) → IsAccepted ps → (name : List ℕ) (vars outvars : List Bool) → IsWritten (emitted_for ps name vars outvars)

-- and has no fault as a text that is run, nor has what differs from it in line numbers alone
abbrev pub EmittedIsSound : Type 0
EmittedIsSound = (ps : List Procedure) → IsAccepted ps → (name : List ℕ) (vars outvars : List Bool) (qs : List Procedure) → unlined (emitted_for ps name vars outvars) ≡ unlined qs → IsSound run_rules qs
