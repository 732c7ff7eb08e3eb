-- Jacobian: the answer of the command `jacobian` to an input. (docs/COMMANDS.md, "`jacobian`")
use Rattle.std.specs.Prelude.{◌≡◌, ◌≢◌, ℕ, nat_lt, ℤ, pos, Bool, true, false, List, length, drop, Option, Some, None, Result, Ok, Err}
use Rattle.adj_tree.specs.Code.{Procedure}
use Rattle.adj_tree.specs.declared.fault.Refusal.{Refusal}
use Rattle.adj_tree.specs.declared.marks.Head.{Head}
use Rattle.def_text.specs.Data.{data_of}
use Rattle.def_text.specs.declared.mode.Mode.TheVariants as mode
use Rattle.def_meaning.specs.Scene.{Outcome, Done, Trapped, More, Full}
use Rattle.def_meaning.specs.Units.{Slot, Output}
use Rattle.def_meaning.specs.Written.{find_unit}
use Rattle.def_names.specs.Check.{first_fault}
use Rattle.def_names.specs.Fault.{source_rules, fault}
use Rattle.def_names.specs.HeadFaults.{first_head_fault, head_of}
use Rattle.def_jacobian.specs.Columns.{Columns}
use Rattle.def_jacobian.specs.Groups.{share, in_group, count_of, AreLeastGroups}
use Rattle.def_jacobian.specs.Patterns.{Task, Place, pattern_run, columns_at, dense}
use Rattle.def_jacobian.specs.Recovered.{Row, places, rows_at, columns_in, entries}
use Rattle.adj_data.specs.Faults.{Fault, data_fault}
use Rattle.adj_data.specs.Given.{input_given}
use Rattle.adj_tool_answer.specs.Answer.{Answer, refused, too_long}
use Rattle.adj_tool_answer.specs.Programs.{TextIs}
use Rattle.adj_tool_answer.specs.Endings.{Asked, bad_data, tape_full, trapped, used_up}
use Rattle.adj_tool_jacobian.specs.Written.{derivative_text}

-- the most bytes of an input
abbrev pub most_bytes : ℕ
most_bytes = 4194304

-- ---- runs

-- The runs of the head on its input, with the statements that are asked for: the program of a user has no runtime calls, so the tape needs no room.
abbrev pub task_of : Asked → List Procedure → Procedure → List Bool → List (Slot ℤ) → Task
task_of r ps u vars input = record { units = ps; unit = u; vars = vars; input = input; room = Some 0; budget = r.budget }

-- the rows of the pattern, which are the cells of the dependents; its columns are those of the independents
abbrev pub pattern_of : Task → List Bool → Output (ℤ × Columns) → List Row
pattern_of p outvars out = rows_at out (length (places p.vars p.input 0)) (places outvars p.input 0)

-- what is written where the pattern run is done: its pattern, with the columns in groups, and each entry of the pattern as the dense derivative has it
pub record TellsDerivative (p : Task) (outvars : List Bool) (out : Output (ℤ × Columns)) (a : Answer) : Type 0 where
  -- each column in order has the least group in which no earlier column shares a row with it
  pub groups : List ℕ
  pub least : AreLeastGroups (columns_in (pattern_of p outvars out)) (length (places p.vars p.input 0)) groups
  -- so two columns of one group share no row
  pub apart : (g c d : ℕ) → in_group groups g c ≡ true → in_group groups g d ≡ true → c ≢ d → share (columns_in (pattern_of p outvars out)) c d ≡ false
  -- an entry outside the pattern is 0
  pub outside : (b : Place) (j : ℕ) → columns_at out b j ≡ false → dense p b j ≡ pos 0
  pub is : a ≡ record { status = 0; text = derivative_text p.unit.dummies (places outvars p.input 0) (places p.vars p.input 0) (pattern_of p outvars out) (count_of groups) (entries (dense p) (pattern_of p outvars out) 0) }

-- the answer to how the pattern run ends; the dual runs end as it does
abbrev pub AnswersEnd : Asked → Task → List Bool → Outcome (Output (ℤ × Columns)) → Answer → Type 0
AnswersEnd r p outvars (Done out used) a = TellsDerivative p outvars out a
AnswersEnd r p outvars (Trapped t line w) a = a ≡ trapped t line
AnswersEnd r p outvars (More w) a = a ≡ used_up r.budget
AnswersEnd r p outvars (Full w) a = a ≡ tape_full r.room

abbrev pub AnswersRun : Asked → List Bool → Task → Answer → Type 0
AnswersRun r outvars p a = AnswersEnd r p outvars (pattern_run p) a

-- ---- the answer, where a fault of the data, of the head, of names, calls and writes, or of the text comes first, in the order from the text on

abbrev pub AnswersInput : Option Fault → Asked → List Procedure → Procedure → Head → List (Slot ℤ) → Answer → Type 0
AnswersInput (Some f) r ps u h input a = a ≡ bad_data f
AnswersInput None r ps u h input a = AnswersRun r h.outvars (task_of r ps u h.vars input) a

-- the answer for a unit, where data stand behind the line of a number
abbrev pub AnswersData : Asked → List Procedure → Procedure → Head → ℕ → List ℕ → Answer → Type 0
AnswersData r ps u h line bytes a = AnswersInput (data_fault line bytes u) r ps u h (input_given line bytes u) a

-- the answer for the head, where the text has it
abbrev pub AnswersHead : Asked → List ℕ → List Procedure → Head → Option Procedure → Answer → Type 0
AnswersHead r bytes ps h None a = a ≡ refused (fault 22 0)
AnswersHead r bytes ps h (Some u) a = AnswersData r ps u h (data_of bytes).1 (drop (data_of bytes).0 bytes) a

-- the answer for a program in which names, calls and writes have no fault, where the head or a listed name has one, or none
abbrev pub AnswersHeaded : Option Refusal → Asked → (vars outvars : List (List ℕ)) → List ℕ → List Procedure → Answer → Type 0
AnswersHeaded (Some e) r vars outvars bytes ps a = a ≡ refused e
AnswersHeaded None r vars outvars bytes ps a = AnswersHead r bytes ps (head_of ps r.head vars outvars) (find_unit ps r.head) a

-- the answer for a program, where its names, calls and writes have a fault, or none
abbrev pub AnswersChecked : Option Refusal → Asked → (vars outvars : List (List ℕ)) → List ℕ → List Procedure → Answer → Type 0
AnswersChecked (Some e) r vars outvars bytes ps a = a ≡ refused e
AnswersChecked None r vars outvars bytes ps a = AnswersHeaded (first_head_fault ps r.head vars outvars) r vars outvars bytes ps a

-- the answer for a text that is a program, or is refused
abbrev pub AnswersText : Asked → (vars outvars : List (List ℕ)) → List ℕ → Result (List Procedure) Refusal → Answer → Type 0
AnswersText r vars outvars bytes (Err e) a = a ≡ refused e
AnswersText r vars outvars bytes (Ok ps) a = AnswersChecked (first_fault source_rules ps) r vars outvars bytes ps a

-- the answer for an input that is too long, or not
abbrev pub AnswersSized : Bool → Asked → (vars outvars : List (List ℕ)) → List ℕ → Answer → Type 0
AnswersSized true r vars outvars bytes a = a ≡ too_long most_bytes
AnswersSized false r vars outvars bytes a = TextIs mode.Source (λ found. AnswersText r vars outvars bytes found a) bytes

-- the answer of `jacobian`
abbrev pub AnswersJacobian : Asked → (vars outvars : List (List ℕ)) → List ℕ → Answer → Type 0
AnswersJacobian r vars outvars bytes a = AnswersSized (nat_lt most_bytes (length bytes)) r vars outvars bytes a

-- no answer has the status of a full tape
abbrev pub NeverFull : Type 0
NeverFull = (r : Asked) (vars outvars : List (List ℕ)) (bytes : List ℕ) (a : Answer) → AnswersJacobian r vars outvars bytes a → a.status ≢ 6
