-- That what is emitted has its shape. (docs/THEOREMS.md, "The shape of what is emitted")
use Rattle.std.specs.Prelude.{◌≡◌, ℕ, List, [], ◌∷◌, Bool}
use Rattle.adj_tree.specs.Code.{Procedure}
use Rattle.adj_tree.specs.Lines.{unlined}
use Rattle.def_names.specs.Fault.{Rules}
use Rattle.def_names.specs.Numbers.{Vars}
use Rattle.def_sweep.specs.Declared.{unit_at}
use Rattle.def_sweep.specs.Marking.{ProgramMarks, full_marks}
use Rattle.def_sweep.specs.Program.{emitted_program_with}
use Rattle.law_emitted.specs.Checked.{IsChecked}
use Rattle.law_emitted.specs.Splits.{AllMaySplit}
use Rattle.def_flow.specs.Problem.{Problem}
use Rattle.def_flow.specs.Activity.{Activity}
use Rattle.def_flow.specs.Live.{Liveness}
use Rattle.def_flow.specs.Analysed.{Analysed}
use Rattle.def_planned.specs.ProgramFacts.{program_facts}
use Rattle.def_adjoint.specs.Shape.{HasShape}
use Rattle.law_shape.specs.Closed.{AreClosed}

-- what is emitted for a checked program by closed marks that split what may be split has its shape, whether marked loops are reversed by schedules or are
-- loops as others, and so has what differs from it in line numbers alone
abbrev pub EmittedHasShape : Type 0
EmittedHasShape =
    (schedules : Bool) (rules : Rules) (ps : List Procedure) → IsChecked rules ps → (m : ProgramMarks) → AllMaySplit schedules m ps ps → (head : ℕ) (vars outvars : List Bool) (u : Procedure) → unit_at head ps ≡ u ∷ [] → AreClosed m ps u →
    (qs : List Procedure) → unlined (emitted_program_with schedules m ps head vars outvars) ≡ unlined qs → HasShape schedules m ps u vars outvars qs

-- full marks are closed
abbrev pub FullAreClosed : Type 0
FullAreClosed = (ps : List Procedure) (head : Procedure) → AreClosed full_marks ps head

-- and so are the marks of exact analyses
abbrev pub AnalysedAreClosed : Type 0
AnalysedAreClosed =
    (rules : Rules) (k : Problem) → IsChecked rules k.units →
    (a : Activity) (l : Liveness) (saved held : ℕ → Vars) → Analysed k a l saved held → (u : Procedure) → unit_at k.head k.units ≡ u ∷ [] →
    AreClosed (program_facts k.units k.split a l saved held).marks k.units u
