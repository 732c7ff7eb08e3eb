-- Complete: where a text and its data have no fault and each run is done, the answer is done.
use Rattle.std.specs.Prelude.{◌≡◌, ◌≤◌, ℕ, List, true, length, drop, Some, None, Ok}
use Rattle.adj_tree.specs.Code.{Procedure}
use Rattle.def_text.specs.Data.{data_of}
use Rattle.def_text.specs.Reads.{ReadsSplits}
use Rattle.def_text.specs.declared.mode.Mode.{Mode}
use Rattle.def_text.specs.declared.mode.Mode.TheVariants.{Source, Run}
use Rattle.def_meaning.specs.Scene.{Outcome, Done}
use Rattle.def_meaning.specs.Units.{Output}
use Rattle.def_meaning.specs.Written.{find_unit}
use Rattle.def_names.specs.Fault.{Rules, source_rules, run_rules}
use Rattle.def_names.specs.Check.{first_fault}
use Rattle.def_names.specs.HeadFaults.{first_head_fault, head_of}
use Rattle.def_kernel.specs.Stepped.{kernel_of}
use Rattle.adj_data.specs.Faults.{data_fault}
use Rattle.adj_data.specs.Given.{input_given}
use Rattle.adj_data.specs.Marked.{check_fault}
use Rattle.adj_tool_answer.specs.Answer.{Answer}
use Rattle.adj_tool_answer.specs.Programs.{IsProgram}
use Rattle.adj_tool_answer.specs.Endings.{Asked}
use Rattle.adj_tool_check.specs.Checking.{Sides, Given, original_run, dual_run, adjoint_run, check_answer, given_of}
use Rattle.def_jacobian.specs.Patterns.{pattern_run}
use Rattle.adj_tool_jacobian.specs.Jacobian as jacobian
use Rattle.adj_tool_jacobian.specs.Jacobian.{AnswersJacobian, task_of}
use Rattle.adj_tool_run.specs.Running as running
use Rattle.adj_tool_run.specs.Running.{AnswersRun, run_asked}
use Rattle.adj_tool.specs.Answer.{AnswersWanted, most_bytes}
use Rattle.adj_tool.specs.Arguments.{Request}
use Rattle.adj_tool.specs.Check.{AnswersCheck, AreSides}
use Rattle.adj_tool.specs.Fitting.{kernel_fits}
use Rattle.adj_tool.specs.declared.task.Wanted.{Wanted}

-- a text of at most so many bytes is a program, and its names, calls and writes have no fault
pub record IsSoundText (mode : Mode) (rules : Rules) (most : ℕ) (bytes : List ℕ) : Type 0 where
  pub source : List Procedure
  pub few : length bytes ≤ most
  pub program : IsProgram mode bytes (Ok source)
  pub sound : first_fault rules source ≡ None

-- nor have the head and the listed names one, and the kernel fits
pub record IsHeadedText (name : List ℕ) (vars outvars : List (List ℕ)) (bytes : List ℕ) : Type 0 where
  pub text : IsSoundText Source source_rules most_bytes bytes
  pub head : first_head_fault text.source name vars outvars ≡ None
  pub fits : kernel_fits (kernel_of text.source) ≡ true

-- a run is done
pub record IsDone {C : Type 0} (o : Outcome (Output C)) : Type 0 where
  pub output : Output C
  pub used : ℕ
  pub is : o ≡ Done output used

-- the three runs of a check are
pub record AreDone (r : Asked) (p : Sides) (d : Given) : Type 0 where
  pub original : IsDone (original_run r p d)
  pub dual : IsDone (dual_run r p d)
  pub adjoint : IsDone (adjoint_run r p d)

-- `adjoint` and `plan` make no run
abbrev pub WantedIsDone : Type 0
WantedIsDone = (w : Wanted) (r : Request) (bytes : List ℕ) (a : Answer) → IsHeadedText r.head r.vars r.outvars bytes → AnswersWanted w r bytes a → a.status ≡ 0

abbrev pub RunIsDone : Type 0
RunIsDone =
    (r : Asked) (bytes : List ℕ) (a : Answer) (t : IsSoundText Run run_rules running.most_bytes bytes) (u : Procedure) → find_unit t.source r.head ≡ Some u →
    data_fault (data_of bytes).1 (drop (data_of bytes).0 bytes) u ≡ None → IsDone (run_asked r t.source u (input_given (data_of bytes).1 (drop (data_of bytes).0 bytes) u)) → AnswersRun r bytes a → a.status ≡ 0

-- the dual runs of `jacobian` end as its pattern run
abbrev pub JacobianIsDone : Type 0
JacobianIsDone =
    (r : Asked) (vars outvars : List (List ℕ)) (bytes : List ℕ) (a : Answer) (t : IsSoundText Source source_rules jacobian.most_bytes bytes) → first_head_fault t.source r.head vars outvars ≡ None → (u : Procedure) → find_unit t.source r.head ≡ Some u →
    data_fault (data_of bytes).1 (drop (data_of bytes).0 bytes) u ≡ None → IsDone (pattern_run (task_of r t.source u (head_of t.source r.head vars outvars).vars (input_given (data_of bytes).1 (drop (data_of bytes).0 bytes) u))) → AnswersJacobian r vars outvars bytes a → a.status ≡ 0

-- whatever adjoint of this shape was run: where the answer is that of its runs and the others, the data have no fault and these are done
abbrev pub CheckIsDone : Type 0
CheckIsDone =
    (r : Asked) (vars outvars : List (List ℕ)) (bytes : List ℕ) (a : Answer) (t : IsHeadedText r.head vars outvars bytes) →
    ((lines : List ℕ) → ReadsSplits bytes lines → (p : Sides) → AreSides lines t.text.source r.head (head_of t.text.source r.head vars outvars) p → a ≡ check_answer r p bytes → (check_fault (data_of bytes).1 (drop (data_of bytes).0 bytes) p.head p.vars p.outvars ≡ None) × AreDone r p (given_of p bytes)) →
    AnswersCheck r vars outvars bytes a → a.status ≡ 0
