-- Exactly: which text `adjoint` and `tangent` write, to the letter, and which program `check` runs. Clauses of private functions say it: the contract of
-- the program says what an adjoint and a tangent are, and not how they are emitted.
use Rattle.std.specs.Prelude.{◌≡◌, ℕ, List, true}
use Rattle.adj_tree.specs.Code.{Procedure}
use Rattle.adj_tree.specs.declared.marks.Head.{Head}
use Rattle.def_text.specs.ReadsAs.{ReadsAs}
use Rattle.def_text.specs.Text.{text_of}
use Rattle.def_text.specs.declared.mode.Mode.TheVariants.{Run}
use Rattle.def_names.specs.Numbers.{Vars}
use Rattle.def_sweep.specs.Marking.{ProgramMarks}
use Rattle.def_kernel.specs.Stepped.{kernel_of}
use Rattle.def_planned.specs.Planned.{kernel_problem, reversed_for}
use Rattle.def_flow.specs.Carried.{IsCarrying, carried_by}
use Rattle.def_tangent.specs.Program.{tangent_for}
use Rattle.adj_tool_answer.specs.Answer.{Answer}
use Rattle.adj_tool_answer.specs.Programs.{TextIs}
use Rattle.adj_tool_answer.specs.Endings.{Asked}
use Rattle.adj_tool_check.specs.Emitted.{or_itself}
use Rattle.adj_tool.specs.Check.{IsChecked}
use Rattle.adj_tool.specs.Fitting.{kernel_fits}
use Rattle.adj_tool.specs.Planned.{AreExact}
use Rattle.adj_tool.specs.declared.task.Wanted.{Wanted}
use Rattle.adj_tool.specs.declared.task.Wanted.TheVariants as wanted

-- ---- what is written

-- The kernel fits, and the text is that of what is emitted for it by the marks of exact analyses, where marked loops are reversed by schedules, and the calls at these lines are
-- split. It reads as that program.
pub record ReadsWritten (lines : List ℕ) (ps : List Procedure) (name : List ℕ) (h : Head) (text : List ℕ) : Type 0 where
  pub fits : kernel_fits (kernel_of ps) ≡ true
  pub marks : ProgramMarks
  pub exact : AreExact lines ps name h marks
  pub is_text : text ≡ text_of (reversed_for ps name h.vars h.outvars marks)
  pub reads : ReadsAs text (reversed_for ps name h.vars h.outvars marks)

-- the same of a tangent, which is emitted by what carries a tangent, as exact analyses say
pub record ReadsTangent (ps : List Procedure) (name : List ℕ) (h : Head) (text : List ℕ) : Type 0 where
  pub fits : kernel_fits (kernel_of ps) ≡ true
  pub varied : ℕ → Vars
  pub carried : ℕ → Vars
  pub exact : IsCarrying (kernel_problem ps name h.vars h.outvars) varied carried
  pub is_text : text ≡ text_of (tangent_for (carried_by (kernel_of ps) carried) ps name h.vars)
  pub reads : ReadsAs text (tangent_for (carried_by (kernel_of ps) carried) ps name h.vars)

abbrev pub ReadsFor : Wanted → List ℕ → List Procedure → List ℕ → Head → List ℕ → Type 0
ReadsFor wanted.Adjoint lines ps name h text = ReadsWritten lines ps name h text
ReadsFor wanted.Tangent lines ps name h text = ReadsTangent ps name h text
ReadsFor wanted.Plan lines ps name h text = Unit {0}

-- where the answer is done, its text is that
abbrev pub ReadsBack : Wanted → Answer → List ℕ → List Procedure → List ℕ → Head → Type 0
ReadsBack w a lines ps name h = a.status ≡ 0 → ReadsFor w lines ps name h a.text

-- ---- what `check` runs

-- what the text of a program is in Run mode, and the program itself where its text is refused
abbrev pub IsReadBack : List Procedure → List Procedure → Type 0
IsReadBack qs found = TextIs Run (λ r. found ≡ or_itself qs r) (text_of qs)

-- The adjoint that was run is what `adjoint` emits for the program and its head: printed and read back, and itself where its text has too many statements.
pub record RunsWritten (lines : List ℕ) (ps : List Procedure) (h : Head) (r : Asked) (bytes : List ℕ) (a : Answer) : Type 0 where
  pub checked : IsChecked lines ps h r bytes a
  pub emitted : IsReadBack (reversed_for ps r.head h.vars h.outvars checked.are_sides.marks) checked.sides.emitted
