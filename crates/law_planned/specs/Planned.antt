-- What is emitted for the kernel of an accepted program by the marks of exact analyses. (docs/THEOREMS.md, "Adjoints")
use Rattle.std.specs.Prelude.{◌≡◌, ◌<◌, ◌+◌, ℕ, List, [], map, length, Bool, true, Some, None}
use Rattle.adj_tree.specs.Code.{Procedure}
use Rattle.adj_tree.specs.Lines.{unlined}
use Rattle.adj_tree.specs.Common.{Shared}
use Rattle.def_meaning.specs.Written.{find_unit}
use Rattle.def_text.specs.Reads.{ReadsShared}
use Rattle.def_text.specs.Written.{IsWritten}
use Rattle.def_names.specs.Fault.{run_rules}
use Rattle.def_names.specs.Check.{IsSound}
use Rattle.def_names.specs.HeadFaults.{unit_number}
use Rattle.def_names.specs.Numbers.{Vars}
use Rattle.def_sweep.specs.Marking.{ProgramMarks, SplitsNothing}
use Rattle.def_sweep.specs.Program.{emitted_program_with, emitted_program}
use Rattle.def_kernel.specs.Kernel.{EachUnit}
use Rattle.def_kernel.specs.Weights.{WeighsAtMost}
use Rattle.def_kernel.specs.Stepped.{kernel_of}
use Rattle.law_kernel.specs.Sound.{IsAccepted}
use Rattle.def_adjoint.specs.Adjoint.{HaveOwnNames, IsAdjointOf}
use Rattle.def_adjoint.specs.CallsAtMost.{CallsAtMost}
use Rattle.def_adjoint.specs.Calls.{CallsWithin}
use Rattle.def_adjoint.specs.Spends.{SpendsAtMost}
use Rattle.def_adjoint.specs.KernelSpends.{HaveVariables, KernelSpendsAtMost}
use Rattle.def_flow.specs.Activity.{Activity}
use Rattle.def_flow.specs.Live.{Liveness}
use Rattle.def_flow.specs.Analysed.{Analysed}
use Rattle.law_analysed.specs.MarkedLines.{program_lines, AreLinesApart}
use Rattle.def_planned.specs.Planned.{HasNoMarks, split_problem, lines_by, marks_by, reversed_for}

-- in the kernel of a program without marked loops none is marked
abbrev pub KernelIsUnmarked : Type 0
KernelIsUnmarked = (ps : List Procedure) → HasNoMarks ps → HasNoMarks (kernel_of ps)

-- where no two marked loops of a program stand at one line, no two of its kernel do
abbrev pub KernelKeepsLines : Type 0
KernelKeepsLines = (ps : List Procedure) → AreLinesApart (program_lines ps) → AreLinesApart (program_lines (kernel_of ps))

-- No two of the units of a text stand at one line that it gives: each statement begins at a line of its own. (Line numbers stand still at 2^32 - 1.)
abbrev pub ReadHaveLinesApart : Type 0
ReadHaveLinesApart = (bytes : List ℕ) (ss : List Shared) → ReadsShared bytes ss → length bytes < 4294967295 → AreLinesApart (program_lines (map (λ s. s.unit) ss))

-- what is emitted for it by some marks
abbrev pub planned_for : List Procedure → List ℕ → List Bool → List Bool → ProgramMarks → List Procedure
planned_for ps name vars outvars m = emitted_program m (kernel_of ps) (unit_number (kernel_of ps) name) vars outvars

-- by exact ones it is an adjoint of the program, and so is what differs from it in line numbers alone
abbrev pub PlannedIsAdjoint : Type 0
PlannedIsAdjoint =
    (ps : List Procedure) → IsAccepted ps → HasNoMarks ps → (name : List ℕ) (u : Procedure) → find_unit ps name ≡ Some u → (vars outvars : List Bool) (lines : List ℕ) →
    (a : Activity) (l : Liveness) (saved held : ℕ → Vars) → Analysed (split_problem lines ps name vars outvars) a l saved held → (qs : List Procedure) →
    unlined (planned_for ps name vars outvars (marks_by lines ps a l saved held)) ≡ unlined qs → IsAdjointOf (λ line. None) (marks_by lines ps a l saved held) ps name vars outvars qs

-- Its run takes at most so many statements for each one of the program's own run, by what a statement of the program weighs and how many calls a chain
-- from the head has; and so does that of what differs from it in line numbers alone: where no call is split.
abbrev pub PlannedSpends : Type 0
PlannedSpends =
    (ps : List Procedure) → IsAccepted ps → HasNoMarks ps → (weight : ℕ) → EachUnit (λ u. WeighsAtMost weight u.body) ps → (name : List ℕ) (u : Procedure) → find_unit ps name ≡ Some u → (calls : ℕ) → CallsAtMost ps name calls → (vars outvars : List Bool) (lines : List ℕ) → lines ≡ [] →
    (a : Activity) (l : Liveness) (saved held : ℕ → Vars) → Analysed (split_problem lines ps name vars outvars) a l saved held → (qs : List Procedure) →
    unlined (planned_for ps name vars outvars (marks_by lines ps a l saved held)) ≡ unlined qs → SpendsAtMost (marks_by lines ps a l saved held) ps name weight calls qs

-- it can be written as a text
abbrev pub PlannedIsWritten : Type 0
PlannedIsWritten =
    (ps : List Procedure) → IsAccepted ps → (name : List ℕ) (vars outvars : List Bool) (lines : List ℕ) (a : Activity) (l : Liveness) (saved held : ℕ → Vars) → Analysed (split_problem lines ps name vars outvars) a l saved held →
    IsWritten (planned_for ps name vars outvars (marks_by lines ps a l saved held))

-- and has no fault as a text that is run, nor has what differs from it in line numbers alone
abbrev pub PlannedIsSound : Type 0
PlannedIsSound =
    (ps : List Procedure) → IsAccepted ps → (name : List ℕ) (vars outvars : List Bool) (lines : List ℕ) (a : Activity) (l : Liveness) (saved held : ℕ → Vars) → Analysed (split_problem lines ps name vars outvars) a l saved held →
    (qs : List Procedure) → unlined (planned_for ps name vars outvars (marks_by lines ps a l saved held)) ≡ unlined qs → IsSound run_rules qs

-- ---- where marked loops are reversed by schedules

-- By exact ones it is an adjoint of the program, and so is what differs from it in line numbers alone: of a program no two of whose marked loops
-- stand at one line.
abbrev pub ReversedIsAdjoint : Type 0
ReversedIsAdjoint =
    (ps : List Procedure) → IsAccepted ps → AreLinesApart (program_lines ps) → (name : List ℕ) (u : Procedure) → find_unit ps name ≡ Some u → (vars outvars : List Bool) (lines : List ℕ) →
    (a : Activity) (l : Liveness) (saved held : ℕ → Vars) → Analysed (split_problem lines ps name vars outvars) a l saved held → (qs : List Procedure) →
    let m = marks_by lines ps a l saved held in
    unlined (reversed_for ps name vars outvars m) ≡ unlined qs → IsAdjointOf (lines_by ps m) m ps name vars outvars qs

-- it can be written as a text
abbrev pub ReversedIsWritten : Type 0
ReversedIsWritten =
    (ps : List Procedure) → IsAccepted ps → (name : List ℕ) (vars outvars : List Bool) (lines : List ℕ) (a : Activity) (l : Liveness) (saved held : ℕ → Vars) → Analysed (split_problem lines ps name vars outvars) a l saved held →
    IsWritten (reversed_for ps name vars outvars (marks_by lines ps a l saved held))

-- and has no fault as a text that is run, nor has what differs from it in line numbers alone
abbrev pub ReversedIsSound : Type 0
ReversedIsSound =
    (ps : List Procedure) → IsAccepted ps → (name : List ℕ) (vars outvars : List Bool) (lines : List ℕ) (a : Activity) (l : Liveness) (saved held : ℕ → Vars) → Analysed (split_problem lines ps name vars outvars) a l saved held →
    (qs : List Procedure) → unlined (reversed_for ps name vars outvars (marks_by lines ps a l saved held)) ≡ unlined qs → IsSound run_rules qs

-- Its run takes at most so many statements for each one of the kernel's own run, by what a statement of the kernel weighs, how many calls a chain from
-- the head has in it, and how many repetitions serve; and so does that of what differs from it in line numbers alone: where no call is split.
abbrev pub ReversedKernelSpends : Type 0
ReversedKernelSpends =
    (ps : List Procedure) → IsAccepted ps → AreLinesApart (program_lines ps) → (weight : ℕ) → EachUnit (λ u. WeighsAtMost weight u.body) (kernel_of ps) → (name : List ℕ) (u : Procedure) → find_unit ps name ≡ Some u → (calls : ℕ) → CallsWithin (kernel_of ps) name calls → (vars outvars : List Bool) (lines : List ℕ) → lines ≡ [] →
    (a : Activity) (l : Liveness) (saved held : ℕ → Vars) → Analysed (split_problem lines ps name vars outvars) a l saved held → (qs : List Procedure) →
    let m = marks_by lines ps a l saved held in
    unlined (reversed_for ps name vars outvars m) ≡ unlined qs → KernelSpendsAtMost (lines_by ps m) m ps name weight calls qs

-- where calls are split, too, with the greatest number of variables of a unit of the kernel besides the greatest weight
abbrev pub ReversedKernelSpendsSplit : Type 0
ReversedKernelSpendsSplit =
    (ps : List Procedure) → IsAccepted ps → AreLinesApart (program_lines ps) → (weight : ℕ) → EachUnit (λ u. WeighsAtMost weight u.body) (kernel_of ps) → (count : ℕ) → HaveVariables count (kernel_of ps) →
    (name : List ℕ) (u : Procedure) → find_unit ps name ≡ Some u → (calls : ℕ) → CallsWithin (kernel_of ps) name calls → (vars outvars : List Bool) (lines : List ℕ) →
    (a : Activity) (l : Liveness) (saved held : ℕ → Vars) → Analysed (split_problem lines ps name vars outvars) a l saved held → (qs : List Procedure) →
    let m = marks_by lines ps a l saved held in
    unlined (reversed_for ps name vars outvars m) ≡ unlined qs → KernelSpendsAtMost (lines_by ps m) m ps name (weight + count) calls qs

-- and the step units of the loops that are reversed have other names than their adjoints, by any marks
abbrev pub ReversedHaveOwnNames : Type 0
ReversedHaveOwnNames = (ps : List Procedure) → IsAccepted ps → (m : ProgramMarks) → HaveOwnNames (lines_by ps m)

-- ---- where no loop is marked

-- the same is emitted whether marked loops are reversed by schedules or not, where no call is split
abbrev pub SchedulesAddNothing : Type 0
SchedulesAddNothing = (ps : List Procedure) → HasNoMarks ps → (m : ProgramMarks) → SplitsNothing m → (head : ℕ) (vars outvars : List Bool) → emitted_program_with true m ps head vars outvars ≡ emitted_program m ps head vars outvars

-- so it is for the kernel
abbrev pub ReversedIsPlanned : Type 0
ReversedIsPlanned = (ps : List Procedure) → HasNoMarks ps → (name : List ℕ) (vars outvars : List Bool) (m : ProgramMarks) → SplitsNothing m → reversed_for ps name vars outvars m ≡ planned_for ps name vars outvars m

-- no loop of it is reversed
abbrev pub NoneIsReversed : Type 0
NoneIsReversed = (ps : List Procedure) → HasNoMarks ps → (m : ProgramMarks) (line : ℕ) → lines_by ps m line ≡ None

-- and the bound is kept
abbrev pub ReversedSpends : Type 0
ReversedSpends =
    (ps : List Procedure) → IsAccepted ps → HasNoMarks ps → (weight : ℕ) → EachUnit (λ u. WeighsAtMost weight u.body) ps → (name : List ℕ) (u : Procedure) → find_unit ps name ≡ Some u → (calls : ℕ) → CallsAtMost ps name calls → (vars outvars : List Bool) (lines : List ℕ) → lines ≡ [] →
    (a : Activity) (l : Liveness) (saved held : ℕ → Vars) → Analysed (split_problem lines ps name vars outvars) a l saved held → (qs : List Procedure) →
    unlined (reversed_for ps name vars outvars (marks_by lines ps a l saved held)) ≡ unlined qs → SpendsAtMost (marks_by lines ps a l saved held) ps name weight calls qs

-- ---- marks that flags tell
