-- What the run of an adjoint takes, against the kernel of the program.
use Rattle.std.specs.Prelude.{◌≡◌, ℕ, ℤ, ◌+◌, ◌*◌, ◌≤◌, length, List, [], true, Some, None}
use Rattle.adj_tree.specs.Code.{Procedure}
use Rattle.def_meaning.specs.Numbers.{words}
use Rattle.def_meaning.specs.Scene.{Done}
use Rattle.def_meaning.specs.Written.{find_unit}
use Rattle.def_meaning.specs.Units.{Slot, Output, fits, run_unit}
use Rattle.def_names.specs.Variables.{variables}
use Rattle.def_sweep.specs.Tangents.{AreAlike}
use Rattle.def_sweep.specs.MarkedAdjoint.{shadow_flags, joined_by}
use Rattle.def_sweep.specs.Names.{adjoint_name}
use Rattle.def_sweep.specs.Marking.{ProgramMarks}
use Rattle.def_sweep.specs.Reversals.{ReversedLines}
use Rattle.def_kernel.specs.Kernel.{EachUnit}
use Rattle.def_kernel.specs.Stepped.{kernel_of}
use Rattle.def_adjoint.specs.Few.{AllFew}
use Rattle.def_adjoint.specs.Scheduled.{most_scheduled}

-- In qs the unit that bears the name which the adjoint of the head's kernel gets takes at most so many statements, by those that the kernel's run of
-- the head takes and by a number of repetitions. The head is the unit of a name in ps. It is said of every input on which that run is done, with any
-- number of repetitions that serves each run of a loop at these lines that it told of: the least such number is one.
abbrev pub KernelSpends : ReversedLines → ProgramMarks → List Procedure → List ℕ → List Procedure → (ℕ → ℕ → ℕ → ℕ) → Type 0
KernelSpends lines m ps name qs most =
    (kernel adjoint : Procedure) → find_unit (kernel_of ps) name ≡ Some kernel → find_unit qs (adjoint_name (kernel_of ps) kernel) ≡ Some adjoint →
    (input shadows : List (Slot ℤ)) → fits words kernel input ≡ true → AreAlike input shadows → (k used : ℕ) (output : Output ℤ) → run_unit words (kernel_of ps) kernel input [] None k ≡ Done output used → (reps : ℕ) → AllFew lines reps output.events →
    (j spent : ℕ) (end : Output ℤ) → run_unit words qs adjoint (joined_by (shadow_flags (m.shadowed name) kernel.dummies) input shadows) [] None j ≡ Done end spent →
    spent ≤ most reps used (length kernel.dummies)

-- the bound, where no statement of the kernel weighs more than `weight`, and no chain of calls in it has more than `calls` calls from the head
abbrev pub KernelSpendsAtMost : ReversedLines → ProgramMarks → List Procedure → List ℕ → ℕ → ℕ → List Procedure → Type 0
KernelSpendsAtMost lines m ps name weight calls qs = KernelSpends lines m ps name qs (λ reps used dummies. most_scheduled weight calls reps used dummies)

-- a round bound, with the number of variables of a unit of the kernel in it
abbrev pub round_bound : ℕ → ℕ → ℕ → ℕ → ℕ → ℕ → ℕ
round_bound weight variables calls reps used dummies = 100 * (weight + variables) * (calls + 2) * (reps + 2) * used + 2 * dummies

abbrev pub KernelSpendsWithin : ReversedLines → ProgramMarks → List Procedure → List ℕ → ℕ → ℕ → ℕ → List Procedure → Type 0
KernelSpendsWithin lines m ps name weight count calls qs = KernelSpends lines m ps name qs (λ reps used dummies. round_bound weight count calls reps used dummies)

-- no unit has more than so many variables
abbrev pub HaveVariables : ℕ → List Procedure → Type 0
HaveVariables count = EachUnit (λ u. length (variables u) ≤ count)
