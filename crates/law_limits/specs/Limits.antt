-- Limits: how deep kernels and emitted programs are, and that what is emitted for the program of a text in Source mode reads in Run mode. (docs/LANGUAGE.md, "Modes")
use Rattle.std.specs.Prelude.{◌≡◌, ◌≤◌, ℕ, ◌+◌, true, false, List, length, Bool, Ok}
use Rattle.adj_tree.specs.Code.{Procedure}
use Rattle.adj_tree.specs.Lines.{unlined}
use Rattle.adj_tree.specs.Size.{IsNested}
use Rattle.def_text.specs.Text.{text_of}
use Rattle.def_text.specs.declared.mode.Mode.TheVariants.{Source, Run}
use Rattle.def_names.specs.Variables.{variables}
use Rattle.def_sweep.specs.Marking.{ProgramMarks}
use Rattle.def_sweep.specs.Program.{emitted_program_with}
use Rattle.def_kernel.specs.Kernel.{EachUnit}
use Rattle.def_kernel.specs.Stepped.{kernel_of}
use Rattle.law_kernel.specs.Sound.{IsAccepted}
use Rattle.law_emitted.specs.Shadowed.{AllHaveShadows}
use Rattle.law_emitted.specs.Splits.{AllMaySplit}
use Rattle.law_emitted.specs.Emitted.{AreShallow}
use Rattle.def_refused.specs.TextFaults.{program_of}
use Rattle.law_limits.specs.Rule.{keeps}
use Rattle.law_limits.specs.Kept.{shallow}
use Rattle.def_text.specs.OrTooMany.{OrTooMany}

-- the kernel is nested at most one deeper than the program
abbrev pub KernelKeepsNesting : Type 0
KernelKeepsNesting = (n : ℕ) (ps : List Procedure) → IsNested n ps → IsNested (n + 1) (kernel_of ps)

-- its expressions and conditions are no deeper than those of the program, or 2 deep
abbrev pub KernelKeepsDepth : Type 0
KernelKeepsDepth = (n : ℕ) → 2 ≤ n → (ps : List Procedure) → AreShallow n ps → AreShallow n (kernel_of ps)

-- what is emitted by any marks for the kernel of a program that a text gives in Source mode is no deeper, and nested no deeper, than a run takes
pub record IsShallow (qs : List Procedure) : Type 0 where
  pub depths : keeps (shallow 120) qs ≡ true
  pub nested : IsNested 45 qs

abbrev pub EmittedIsShallowWith : (schedules : Bool) → Type 0
EmittedIsShallowWith schedules = (bytes : List ℕ) (ps : List Procedure) → program_of Source bytes ≡ Ok ps → (m : ProgramMarks) (head : ℕ) (vars outvars : List Bool) → IsShallow (emitted_program_with schedules m (kernel_of ps) head vars outvars)

abbrev pub EmittedIsShallow : Type 0
EmittedIsShallow = EmittedIsShallowWith false

-- where each unit of the kernel of an accepted program has fewer than 2^30 variables, the text that is emitted for it by any marks whose shadows are there and that split what may be
-- split reads in Run mode as what was emitted, up to line numbers, or has too many statements
abbrev pub EmittedIsRunnableWith : (schedules : Bool) → Type 0
EmittedIsRunnableWith schedules =
    (bytes : List ℕ) (ps : List Procedure) → program_of Source bytes ≡ Ok ps → IsAccepted ps → EachUnit (λ v. length (variables v) ≤ 1073741823) (kernel_of ps) →
    (m : ProgramMarks) → AllHaveShadows m (kernel_of ps) (kernel_of ps) → AllMaySplit schedules m (kernel_of ps) (kernel_of ps) → (head : ℕ) (vars outvars : List Bool) →
    OrTooMany (λ found. unlined found ≡ unlined (emitted_program_with schedules m (kernel_of ps) head vars outvars)) (program_of Run (text_of (emitted_program_with schedules m (kernel_of ps) head vars outvars)))

abbrev pub EmittedIsRunnable : Type 0
EmittedIsRunnable = EmittedIsRunnableWith false
