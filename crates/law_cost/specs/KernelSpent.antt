-- What the emitted program takes for each statement of the kernel, whether loops are marked or not. (docs/THEOREMS.md, "What both sweeps cost")
use Rattle.std.specs.Prelude.{◌≡◌, ℕ, suc, ◌+◌, ◌≤◌, List, Bool, Some}
use Rattle.adj_tree.specs.Code.{Procedure}
use Rattle.adj_tree.specs.Lines.{unlined}
use Rattle.def_meaning.specs.Written.{find_unit}
use Rattle.def_names.specs.Calls.{chain_from}
use Rattle.def_names.specs.HeadFaults.{unit_number}
use Rattle.def_sweep.specs.Marking.{ProgramMarks, SplitsNothing, ProgramFacts}
use Rattle.def_sweep.specs.Program.{emitted_program_with}
use Rattle.def_sweep.specs.Reversals.{ReversedLines}
use Rattle.law_sweep.specs.Source.{SourceFitsWith}
use Rattle.def_kernel.specs.Weights.{WeighsAtMost}
use Rattle.def_kernel.specs.Kernel.{EachUnit}
use Rattle.def_kernel.specs.Stepped.{kernel_of}
use Rattle.law_kernel.specs.Sound.{IsAccepted}
use Rattle.def_adjoint.specs.Calls.{CallsWithin}
use Rattle.def_adjoint.specs.KernelSpends.{KernelSpendsAtMost, KernelSpendsWithin, HaveVariables}

-- What is emitted for the kernel by marks that meet the laws and split no call keeps the bound, whether its marked loops are reversed by schedules or are
-- loops as others, and so does what differs from it in line numbers alone.
abbrev pub KernelKeepsBound : Type 0
KernelKeepsBound =
    (schedules : Bool) (lines : ReversedLines) (w : ProgramFacts) (ps : List Procedure) (weight : ℕ) → EachUnit (λ u. WeighsAtMost weight u.body) (kernel_of ps) → (name : List ℕ) (calls : ℕ) → CallsWithin (kernel_of ps) name calls →
    (kernel : Procedure) → find_unit (kernel_of ps) name ≡ Some kernel → SourceFitsWith schedules lines w (kernel_of ps) kernel → SplitsNothing w.marks → (vars outvars : List Bool) (qs : List Procedure) →
    unlined (emitted_program_with schedules w.marks (kernel_of ps) (unit_number (kernel_of ps) name) vars outvars) ≡ unlined qs → KernelSpendsAtMost lines w.marks ps name weight calls qs

-- So does what is emitted by marks that split calls, with the greatest number of variables of a unit besides the greatest weight.
abbrev pub KernelKeepsSplitBound : Type 0
KernelKeepsSplitBound =
    (schedules : Bool) (lines : ReversedLines) (w : ProgramFacts) (ps : List Procedure) (weight : ℕ) → EachUnit (λ u. WeighsAtMost weight u.body) (kernel_of ps) → (count : ℕ) → HaveVariables count (kernel_of ps) → (name : List ℕ) (calls : ℕ) → CallsWithin (kernel_of ps) name calls →
    (kernel : Procedure) → find_unit (kernel_of ps) name ≡ Some kernel → SourceFitsWith schedules lines w (kernel_of ps) kernel → (vars outvars : List Bool) (qs : List Procedure) →
    unlined (emitted_program_with schedules w.marks (kernel_of ps) (unit_number (kernel_of ps) name) vars outvars) ≡ unlined qs → KernelSpendsAtMost lines w.marks ps name (weight + count) calls qs

-- what keeps it keeps the round one
abbrev pub RoundBoundIsKept : Type 0
RoundBoundIsKept =
    (lines : ReversedLines) (m : ProgramMarks) (ps : List Procedure) (name : List ℕ) (weight count calls : ℕ) (qs : List Procedure) →
    KernelSpendsAtMost lines m ps name weight calls qs → KernelSpendsWithin lines m ps name weight count calls qs

-- and what keeps the one with the number of variables in it
abbrev pub RoundSplitBoundIsKept : Type 0
RoundSplitBoundIsKept =
    (lines : ReversedLines) (m : ProgramMarks) (ps : List Procedure) (name : List ℕ) (weight count calls : ℕ) (qs : List Procedure) →
    KernelSpendsAtMost lines m ps name (weight + count) calls qs → KernelSpendsWithin lines m ps name weight count calls qs

-- In the kernel of an accepted program no chain from a unit of the program has more calls than are counted where the program is checked, each marked
-- DO as one.
abbrev pub KernelChainsAreCounted : Type 0
KernelChainsAreCounted = (ps : List Procedure) → IsAccepted ps → (name : List ℕ) (u : Procedure) → find_unit ps name ≡ Some u → (calls : ℕ) → chain_from ps name ≤ suc calls → CallsWithin (kernel_of ps) name calls
