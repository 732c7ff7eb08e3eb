-- The text of a tangent keeps the limits of a run: it reads in Run mode as what was emitted. (docs/LANGUAGE.md, "Modes")
use Rattle.std.specs.Prelude.{◌≡◌, ◌≤◌, ℕ, List, length, Bool, Ok}
use Rattle.adj_tree.specs.Code.{Procedure}
use Rattle.adj_tree.specs.Lines.{unlined}
use Rattle.def_text.specs.Text.{text_of}
use Rattle.def_text.specs.OrTooMany.{OrTooMany}
use Rattle.def_text.specs.declared.mode.Mode.TheVariants.{Source, Run}
use Rattle.def_names.specs.Variables.{variables}
use Rattle.def_names.specs.Numbers.{Vars}
use Rattle.def_kernel.specs.Kernel.{EachUnit}
use Rattle.def_kernel.specs.Stepped.{kernel_of}
use Rattle.def_flow.specs.Problem.{Problem}
use Rattle.def_tangent.specs.Program.{Carried, tangent_program}
use Rattle.def_flow.specs.Carried.{IsCarrying, carried_by}
use Rattle.law_kernel.specs.Sound.{IsAccepted}
use Rattle.law_limits.specs.Limits.{IsShallow}
use Rattle.def_refused.specs.TextFaults.{program_of}

-- what is emitted for the kernel of a program that a text gives in Source mode is no deeper, and nested no deeper, than a run takes
abbrev pub TangentIsShallow : Type 0
TangentIsShallow = (bytes : List ℕ) (ps : List Procedure) → program_of Source bytes ≡ Ok ps → (c : Carried) (head : ℕ) (vars : List Bool) → IsShallow (tangent_program c (kernel_of ps) head vars)

-- where each unit of the kernel of an accepted program has fewer than 2^30 variables, the text of its tangent, by exact analyses, reads in Run mode
-- as what was emitted, up to line numbers, or has too many statements
abbrev pub TangentIsRunnable : Type 0
TangentIsRunnable =
    (bytes : List ℕ) (ps : List Procedure) → program_of Source bytes ≡ Ok ps → IsAccepted ps → EachUnit (λ v. length (variables v) ≤ 1073741823) (kernel_of ps) →
    (k : Problem) → k.units ≡ kernel_of ps → (varied on : ℕ → Vars) → IsCarrying k varied on →
    let qs = tangent_program (carried_by (kernel_of ps) on) (kernel_of ps) k.head k.vars in
    OrTooMany (λ found. unlined found ≡ unlined qs) (program_of Run (text_of qs))
