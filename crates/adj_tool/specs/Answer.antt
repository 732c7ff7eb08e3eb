-- Answer: what a command writes, and the status that goes with it.
use Rattle.std.specs.Prelude.{◌≡◌, ℕ, nat_lt, Bool, true, false, List, ◌++◌, length, flat_map, Option, Some, None, Result, Ok, Err, codes, decimal}
use Rattle.adj_tree.specs.Code.{Procedure}
use Rattle.adj_tree.specs.declared.fault.Refusal.{Refusal}
use Rattle.adj_tree.specs.declared.marks.Head.{Head}
use Rattle.def_names.specs.Fault.{source_rules}
use Rattle.def_names.specs.Check.{first_fault}
use Rattle.def_names.specs.HeadFaults.{first_head_fault, head_of}
use Rattle.def_text.specs.Reads.{ReadsSplits}
use Rattle.def_text.specs.declared.mode.Mode.TheVariants.{Source}
use Rattle.adj_tool_answer.specs.Answer.{Answer, line_of_one, refused, too_long}
use Rattle.adj_tool_answer.specs.Programs.{TextIs}
use Rattle.def_kernel.specs.Stepped.{kernel_of}
use Rattle.adj_plan.specs.Lines.{plan_lines, TellsPlan}
use Rattle.adj_plan.specs.declared.lines.Said.{Said}
use Rattle.def_planned.specs.Planned.{split_problem}
use Rattle.adj_revolve.specs.declared.machine.Action.{Action}
use Rattle.adj_revolve.specs.declared.machine.Action.TheVariants.{Store, Advance, Turn, Keep, Drop}
use Rattle.adj_revolve.specs.Schedule.{schedule_of}
use Rattle.adj_revolve.specs.LeastCost.{least_cost}
use Rattle.adj_tool.specs.Arguments.{Request}
use Rattle.adj_tool.specs.declared.task.Wanted.{Wanted}
use Rattle.adj_tool.specs.declared.task.Wanted.TheVariants as wanted
use Rattle.adj_tool.specs.Fitting.{most_numbered, kernel_fits}
use Rattle.adj_tool.specs.Headline.{IsTransformed}

-- ---- schedules

-- the line of an action
abbrev pub action_line : Action → List ℕ
action_line (Store p) = line_of_one (codes "STORE ") p
action_line (Advance p q) = codes "ADVANCE " ++ decimal p ++ codes " " ++ decimal q ++ codes "\n"
action_line (Turn p) = line_of_one (codes "TURN ") p
action_line (Keep p) = line_of_one (codes "KEEP ") p
action_line (Drop p) = line_of_one (codes "DROP ") p

-- a line for each action of the schedule, and its cost
abbrev pub schedule_answer : ℕ → ℕ → Answer
schedule_answer steps snapshots = record {
  status = 0;
  text = flat_map action_line (schedule_of 0 steps snapshots) ++ line_of_one (codes "ADVANCES ") (least_cost steps snapshots);
}

-- ---- adjoints, tangents and plans

-- the most bytes of an input
abbrev pub most_bytes : ℕ
most_bytes = 4194304

-- a kernel is too large
abbrev pub too_large : Answer
too_large = refused (record { code = 21; line = 0; number = most_numbered })

-- the plan of a program for the unit of a name as its head, where the calls at these lines are to be split: a line for each statement of the kernel,
-- with the letters that exact analyses say
pub record IsPlanned (lines : List ℕ) (ps : List Procedure) (name : List ℕ) (h : Head) (a : Answer) : Type 0 where
  pub said : ℕ → ℕ → Said
  pub takes : ℕ → Bool
  pub tells : TellsPlan (split_problem lines ps name h.vars h.outvars) said takes
  pub text : a ≡ record { status = 0; text = plan_lines said takes (kernel_of ps) }

-- The answer is done. What the text of an adjoint or of a tangent is, says `transformed` below.
abbrev pub IsGiven : Wanted → List ℕ → List Procedure → List ℕ → Head → Answer → Type 0
IsGiven wanted.Adjoint lines ps name h a = a.status ≡ 0
IsGiven wanted.Tangent lines ps name h a = a.status ≡ 0
IsGiven wanted.Plan lines ps name h a = IsPlanned lines ps name h a

-- the answer for a program and its head, where the kernel fits, or not
abbrev pub AnswersFitted : Bool → Wanted → List ℕ → List Procedure → List ℕ → Head → Answer → Type 0
AnswersFitted true w lines ps name h a = IsGiven w lines ps name h a
AnswersFitted false w lines ps name h a = a ≡ too_large

-- the answer for a program and its head
abbrev pub AnswersAccepted : Wanted → List ℕ → List Procedure → List ℕ → Head → Answer → Type 0
AnswersAccepted w lines ps name h a = AnswersFitted (kernel_fits (kernel_of ps)) w lines ps name h a

-- the answer for a program in which names, calls and writes have no fault, where the head or a listed name has one, or none
abbrev pub AnswersHeaded : Option Refusal → Wanted → Request → List ℕ → List Procedure → Answer → Type 0
AnswersHeaded (Some e) w r lines ps a = a ≡ refused e
AnswersHeaded None w r lines ps a = AnswersAccepted w lines ps r.head (head_of ps r.head r.vars r.outvars) a

-- the answer for a program, where its names, calls and writes have a fault, or none
abbrev pub AnswersChecked : Option Refusal → Wanted → Request → List ℕ → List Procedure → Answer → Type 0
AnswersChecked (Some e) w r lines ps a = a ≡ refused e
AnswersChecked None w r lines ps a = AnswersHeaded (first_head_fault ps r.head r.vars r.outvars) w r lines ps a

abbrev pub AnswersProgram : Wanted → Request → List ℕ → List Procedure → Answer → Type 0
AnswersProgram w r lines ps a = AnswersChecked (first_fault source_rules ps) w r lines ps a

-- the lines of the calls of a text that directives split are such
pub record SplitsAre (IsSuch : List ℕ → Type 0) (bytes : List ℕ) : Type 0 where
  pub lines : List ℕ
  pub reads : ReadsSplits bytes lines
  pub such : IsSuch lines

-- the answer for a text that is a program, or is refused
abbrev pub AnswersText : Wanted → Request → List ℕ → Result (List Procedure) Refusal → Answer → Type 0
AnswersText w r bytes (Err e) a = a ≡ refused e
AnswersText w r bytes (Ok ps) a = SplitsAre (λ lines. AnswersProgram w r lines ps a) bytes

-- the answer for an input that is too long, or not
abbrev pub AnswersSized : Bool → Wanted → Request → List ℕ → Answer → Type 0
AnswersSized true w r bytes a = a ≡ too_long most_bytes
AnswersSized false w r bytes a = TextIs Source (λ found. AnswersText w r bytes found a) bytes

-- the answer of `adjoint`, of `tangent`, or of `plan`; where it is done, its text is that of an adjoint, or of a tangent
pub record AnswersWanted (w : Wanted) (r : Request) (bytes : List ℕ) (a : Answer) : Type 0 where
  pub sized : AnswersSized (nat_lt most_bytes (length bytes)) w r bytes a
  pub transformed : IsTransformed w r bytes a
