-- Running: the answer of the command `run` to an input. (docs/COMMANDS.md, "`run`")
use Rattle.std.specs.Prelude.{◌≡◌, ℕ, nat_lt, Bool, true, false, ℤ, List, [], length, drop, Option, Some, None, Result, Ok, Err}
use Rattle.adj_tree.specs.Code.{Procedure}
use Rattle.adj_tree.specs.declared.fault.Refusal.{Refusal}
use Rattle.def_text.specs.Data.{data_of}
use Rattle.def_text.specs.declared.mode.Mode.TheVariants as mode
use Rattle.def_meaning.specs.Numbers.{words}
use Rattle.def_meaning.specs.Scene.{Outcome, Done, Trapped, More, Full}
use Rattle.def_meaning.specs.Units.{Slot, Output, run_unit}
use Rattle.def_meaning.specs.Written.{find_unit}
use Rattle.def_names.specs.Check.{first_fault}
use Rattle.def_names.specs.Fault.{run_rules, fault}
use Rattle.adj_data.specs.Faults.{Fault, data_fault}
use Rattle.adj_data.specs.Given.{input_given}
use Rattle.adj_tool_answer.specs.Answer.{Answer, refused, too_long}
use Rattle.adj_tool_answer.specs.Programs.{TextIs}
use Rattle.adj_tool_answer.specs.Endings.{Asked, bad_data, done, tape_full, trapped, used_up}

-- the most bytes of an input
abbrev pub most_bytes : ℕ
most_bytes = 67108864

-- ---- what is written

-- ---- runs

-- the answer to how a run of a unit with these dummies ends
abbrev pub ended : Asked → List (List ℕ) → Outcome (Output ℤ) → Answer
ended r names (Done out used) = done names out.slots (length out.tape) used
ended r names (Trapped t line w) = trapped t line
ended r names (More w) = used_up r.budget
ended r names (Full w) = tape_full r.room

-- the run that is asked for, of a unit on an input, from an empty tape
abbrev pub run_asked : Asked → List Procedure → Procedure → List (Slot ℤ) → Outcome (Output ℤ)
run_asked r ps u input = run_unit words ps u input [] (Some r.room) r.budget

-- ---- the answer, where a fault of the data, of the head, of names, calls and writes, or of the text comes first, in the order from the text on

abbrev pub input_answer : Option Fault → Asked → List Procedure → Procedure → List (Slot ℤ) → Answer
input_answer (Some f) r ps u input = bad_data f
input_answer None r ps u input = ended r u.dummies (run_asked r ps u input)

-- the answer for a unit, where data stand behind the line of a number
abbrev pub data_answer : Asked → List Procedure → Procedure → ℕ → List ℕ → Answer
data_answer r ps u line bytes = input_answer (data_fault line bytes u) r ps u (input_given line bytes u)

-- the answer for the head, where the text has it
abbrev pub head_answer : Asked → List ℕ → List Procedure → Option Procedure → Answer
head_answer r bytes ps None = refused (fault 22 0)
head_answer r bytes ps (Some u) = data_answer r ps u (data_of bytes).1 (drop (data_of bytes).0 bytes)

abbrev pub checked_answer : Option Refusal → Asked → List ℕ → List Procedure → Answer
checked_answer (Some e) r bytes ps = refused e
checked_answer None r bytes ps = head_answer r bytes ps (find_unit ps r.head)

abbrev pub text_answer : Asked → List ℕ → Result (List Procedure) Refusal → Answer
text_answer r bytes (Err e) = refused e
text_answer r bytes (Ok ps) = checked_answer (first_fault run_rules ps) r bytes ps

-- the answer to an input that is too long, or not
abbrev pub AnswersSized : Bool → Asked → List ℕ → Answer → Type 0
AnswersSized true r bytes a = a ≡ too_long most_bytes
AnswersSized false r bytes a = TextIs mode.Run (λ found. a ≡ text_answer r bytes found) bytes

-- the answer of `run`
abbrev pub AnswersRun : Asked → List ℕ → Answer → Type 0
AnswersRun r bytes a = AnswersSized (nat_lt most_bytes (length bytes)) r bytes a
