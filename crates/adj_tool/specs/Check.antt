-- Check: the answer of the command `check`, and what holds where it is done. (docs/COMMANDS.md, "`check`")
use Rattle.std.specs.Prelude.{◌≡◌, ℕ, nat_lt, Bool, true, false, List, length, Option, Some, None, Result, Ok, Err}
use Rattle.adj_tree.specs.Code.{Procedure}
use Rattle.adj_tree.specs.declared.fault.Refusal.{Refusal}
use Rattle.adj_tree.specs.declared.marks.Head.{Head}
use Rattle.def_common.specs.Source.{ReadsLowered, KeepsRuns}
use Rattle.def_text.specs.Reads.{ReadsSplits}
use Rattle.def_text.specs.declared.mode.Mode.TheVariants.{Source}
use Rattle.def_meaning.specs.Written.{find_unit}
use Rattle.def_names.specs.Fault.{source_rules}
use Rattle.def_names.specs.Check.{first_fault}
use Rattle.def_names.specs.HeadFaults.{first_head_fault, head_of}
use Rattle.def_sweep.specs.MarkedAdjoint.{shadow_flags}
use Rattle.def_sweep.specs.Marking.{ProgramMarks}
use Rattle.def_adjoint.specs.KernelShape.{HasKernelShape}
use Rattle.def_kernel.specs.Stepped.{kernel_of}
use Rattle.def_planned.specs.Planned.{lines_by}
use Rattle.adj_tool_answer.specs.Answer.{Answer, refused, too_long}
use Rattle.adj_tool_answer.specs.Programs.{TextIs}
use Rattle.adj_tool_answer.specs.Endings.{Asked}
use Rattle.adj_tool_check.specs.Checking.{Sides, check_answer}
use Rattle.adj_tool_check.specs.Agreeing.{TrapsAlone, Agrees}
use Rattle.adj_tool.specs.Planned.{AreExact}
use Rattle.adj_tool.specs.Fitting.{kernel_fits}
use Rattle.adj_tool.specs.Answer.{most_bytes, too_large, SplitsAre}
use Rattle.adj_tool.specs.Headline.{RunsAdjoint}

-- A program and its head, the unit of a name, with a program that is an adjoint of it, keeps the bound, and has the shape, by the marks of exact analyses, where the calls
-- at these lines are split; and with the adjoint of the head there.
pub record AreSides (lines : List ℕ) (ps : List Procedure) (name : List ℕ) (h : Head) (p : Sides) : Type 0 where
  pub source : p.source ≡ ps
  pub is_head : find_unit ps name ≡ Some p.head
  pub vars : p.vars ≡ h.vars
  pub outvars : p.outvars ≡ h.outvars
  pub marks : ProgramMarks
  pub exact : AreExact lines ps name h marks
  pub runs : RunsAdjoint lines marks ps name h.vars h.outvars p.emitted
  pub shape : HasKernelShape true marks ps name h.vars h.outvars p.emitted
  pub adjoint : p.adjoint ≡ runs.adjoins.adjoint
  pub shadows : p.shadowed ≡ shadow_flags (marks.shadowed name) p.head.dummies

-- the answer to the data behind a text, which tells of no trap but the head's own
pub record IsChecked (lines : List ℕ) (ps : List Procedure) (h : Head) (r : Asked) (bytes : List ℕ) (a : Answer) : Type 0 where
  pub sides : Sides
  pub are_sides : AreSides lines ps r.head h sides
  pub is : a ≡ check_answer r sides bytes
  pub traps : TrapsAlone r sides bytes

-- ---- faults come first

abbrev pub Unrefused : Option Refusal → Type 0 → Answer → Type 0
Unrefused (Some e) P a = a ≡ refused e
Unrefused None P a = P

-- the kernel fits, or not
abbrev pub Fitted : Bool → Type 0 → Answer → Type 0
Fitted true P a = P
Fitted false P a = a ≡ too_large

abbrev pub AnswersAcceptedCheck : Asked → List ℕ → List ℕ → List Procedure → Head → Answer → Type 0
AnswersAcceptedCheck r bytes lines ps h a = Fitted (kernel_fits (kernel_of ps)) (IsChecked lines ps h r bytes a) a

abbrev pub AnswersSoundCheck : Asked → List (List ℕ) → List (List ℕ) → List ℕ → List ℕ → List Procedure → Answer → Type 0
AnswersSoundCheck r vars outvars bytes lines ps a = Unrefused (first_head_fault ps r.head vars outvars) (AnswersAcceptedCheck r bytes lines ps (head_of ps r.head vars outvars) a) a

abbrev pub AnswersTextCheck : Asked → List (List ℕ) → List (List ℕ) → List ℕ → Result (List Procedure) Refusal → Answer → Type 0
AnswersTextCheck r vars outvars bytes (Err e) a = a ≡ refused e
AnswersTextCheck r vars outvars bytes (Ok ps) a = SplitsAre (λ lines. Unrefused (first_fault source_rules ps) (AnswersSoundCheck r vars outvars bytes lines ps a) a) bytes

abbrev pub AnswersSizedCheck : Bool → Asked → List (List ℕ) → List (List ℕ) → List ℕ → Answer → Type 0
AnswersSizedCheck true r vars outvars bytes a = a ≡ too_long most_bytes
AnswersSizedCheck false r vars outvars bytes a = TextIs Source (λ found. AnswersTextCheck r vars outvars bytes found a) bytes

-- the answer of `check`
abbrev pub AnswersCheck : Asked → List (List ℕ) → List (List ℕ) → List ℕ → Answer → Type 0
AnswersCheck r vars outvars bytes a = AnswersSizedCheck (nat_lt most_bytes (length bytes)) r vars outvars bytes a

-- ---- where it is done

-- the bytes that were read are a program with its data; what is run as the emitted program is an adjoint of it, by the names that were asked for; its
-- run never traps; and the products that are told are equal
pub record ChecksAdjoint (r : Asked) (vars outvars : List (List ℕ)) (bytes text : List ℕ) : Type 0 where
  pub source : List Procedure
  pub reads : ReadsLowered bytes source
  -- which does what the text does with its blocks
  pub keeps : KeepsRuns reads.shared
  -- the lines of its calls that directives split
  pub splits : List ℕ
  pub reads_splits : ReadsSplits bytes splits
  pub sides : Sides
  pub are_sides : AreSides splits source r.head (head_of source r.head vars outvars) sides
  pub agrees : Agrees r (lines_by source are_sides.marks) sides bytes text

-- where the answer to these bytes is done
abbrev pub IsCompared : Asked → List (List ℕ) → List (List ℕ) → List ℕ → Answer → Type 0
IsCompared r vars outvars bytes a = a.status ≡ 0 → ChecksAdjoint r vars outvars bytes a.text
