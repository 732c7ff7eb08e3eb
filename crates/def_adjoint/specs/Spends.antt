-- What the run of an adjoint takes, against the program of a user.
use Rattle.std.specs.Prelude.{◌≡◌, ℕ, ℤ, ◌+◌, ◌*◌, ◌≤◌, length, List, [], true, Some, None}
use Rattle.adj_tree.specs.Code.{Procedure}
use Rattle.def_meaning.specs.Numbers.{words}
use Rattle.def_meaning.specs.Scene.{Done}
use Rattle.def_meaning.specs.Written.{find_unit}
use Rattle.def_meaning.specs.Units.{Slot, Output, fits, run_unit}
use Rattle.def_sweep.specs.Tangents.{AreAlike}
use Rattle.def_sweep.specs.MarkedAdjoint.{shadow_flags, joined_by}
use Rattle.def_sweep.specs.Names.{adjoint_name}
use Rattle.def_sweep.specs.Marking.{ProgramMarks}
use Rattle.def_kernel.specs.Stepped.{kernel_of}

-- the bound on the statements of an adjoint's run, where no statement weighs more than `weight`, no chain has more than `calls` calls, the
-- head's run takes `used` statements, and the head has so many dummies
abbrev pub most_spent : ℕ → ℕ → ℕ → ℕ → ℕ
most_spent weight calls used dummies = (36 + 9 * calls) * weight * used + 2 * dummies

-- In qs the unit that bears the name which the adjoint of the head's kernel gets keeps the bound, where the head is the unit of a name in ps: on
-- every input on which the head's run is done. The marks are those of the kernel.
abbrev pub SpendsAtMost : ProgramMarks → List Procedure → List ℕ → ℕ → ℕ → List Procedure → Type 0
SpendsAtMost m ps name weight calls qs =
    (head kernel adjoint : Procedure) → find_unit ps name ≡ Some head → find_unit (kernel_of ps) name ≡ Some kernel → find_unit qs (adjoint_name (kernel_of ps) kernel) ≡ Some adjoint →
    (input shadows : List (Slot ℤ)) → fits words head input ≡ true → AreAlike input shadows → (k used : ℕ) (output : Output ℤ) → run_unit words ps head input [] None k ≡ Done output used →
    (j spent : ℕ) (end : Output ℤ) → run_unit words qs adjoint (joined_by (shadow_flags (m.shadowed name) head.dummies) input shadows) [] None j ≡ Done end spent →
    spent ≤ most_spent weight calls used (length head.dummies)
