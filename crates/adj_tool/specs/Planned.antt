-- What `adjoint`, `tangent` and `plan` write by the analyses of a kernel. (docs/ANALYSES.md)
use Rattle.std.specs.Prelude.{◌≡◌, ℕ, List, Bool, true, Some, slice_get, false}
use Rattle.adj_tree.specs.Code.{Procedure}
use Rattle.adj_tree.specs.declared.marks.Head.{Head}
use Rattle.def_text.specs.ReadsAs.{ReadsAs}
use Rattle.def_text.specs.Text.{text_of}
use Rattle.def_text.specs.Written.{IsWritten}
use Rattle.def_names.specs.Numbers.{Vars}
use Rattle.def_sweep.specs.MarkedAdjoint.{shadow_flags}
use Rattle.def_sweep.specs.Names.{adjoint_name}
use Rattle.def_sweep.specs.Marking.{ProgramMarks}
use Rattle.def_sweep.specs.Program.{emitted_program_with}
use Rattle.def_flow.specs.Problem.{Problem}
use Rattle.def_flow.specs.Splits.{is_line, split_calls}
use Rattle.def_flow.specs.Activity.{Activity}
use Rattle.def_flow.specs.Live.{Liveness}
use Rattle.def_flow.specs.Analysed.{Analysed}
use Rattle.def_planned.specs.ProgramFacts.{program_facts}
use Rattle.def_tangent.specs.Program.{tangent_program}
use Rattle.def_flow.specs.Carried.{IsCarrying, carried_by}
use Rattle.adj_plan.specs.Lines.{plan_lines, TellsPlan}
use Rattle.adj_plan.specs.declared.lines.Said.{Said}
use Rattle.def_planned.specs.Planned.{split_problem, marks_by}
use Rattle.adj_tool.specs.declared.task.Wanted.{Wanted}
use Rattle.adj_tool.specs.declared.task.Wanted.TheVariants as wanted

-- a program is asked for a head
abbrev pub problem_for : List Procedure → Head → Problem
problem_for us h = record { units = us; head = h.unit; vars = h.vars; outvars = h.outvars; split = λ n. false }

-- where its calls at these lines are to be split
abbrev pub splits_for : List ℕ → List Procedure → Head → Problem
splits_for lines us h = record { units = us; head = h.unit; vars = h.vars; outvars = h.outvars; split = split_calls (is_line lines) us }

-- it is what is emitted for some units by the marks that exact analyses give, where marked loops are reversed by schedules
pub record IsEmittedFor (lines : List ℕ) (us : List Procedure) (h : Head) (qs : List Procedure) : Type 0 where
  pub activity : Activity
  pub liveness : Liveness
  pub saved : ℕ → Vars
  pub held : ℕ → Vars
  pub analysed : Analysed (splits_for lines us h) activity liveness saved held
  pub emitted : qs ≡ emitted_program_with true (program_facts us (split_calls (is_line lines) us) activity liveness saved held).marks us h.unit h.vars h.outvars

-- the same, with the name of the adjoint of the head and the flags of its dummies that have a shadow
pub record IsKnownFor (lines : List ℕ) (us : List Procedure) (h : Head) (qs : List Procedure) (adjoint : List ℕ) (shadowed : List Bool) : Type 0 where
  pub emitted : IsEmittedFor lines us h qs
  pub named : (u : Procedure) → slice_get us h.unit ≡ Some u → adjoint ≡ adjoint_name us u
  pub shadows : (u : Procedure) → slice_get us h.unit ≡ Some u → shadowed ≡ shadow_flags ((program_facts us (split_calls (is_line lines) us) emitted.activity emitted.liveness emitted.saved emitted.held).marks.shadowed u.name) u.dummies

-- these are the marks that exact analyses of a program's kernel give, for the unit of a name as its head, where its calls at these lines are to be
-- split
pub record AreExact (lines : List ℕ) (ps : List Procedure) (name : List ℕ) (h : Head) (m : ProgramMarks) : Type 0 where
  pub activity : Activity
  pub liveness : Liveness
  pub saved : ℕ → Vars
  pub held : ℕ → Vars
  pub analysed : Analysed (split_problem lines ps name h.vars h.outvars) activity liveness saved held
  pub are : m ≡ marks_by lines ps activity liveness saved held

-- it is the canonical text of what is emitted for some units
pub record IsAdjointText (lines : List ℕ) (us : List Procedure) (h : Head) (text : List ℕ) : Type 0 where
  pub program : List Procedure
  pub emitted : IsEmittedFor lines us h program
  pub is_text : text ≡ text_of program
  pub reads : IsWritten program → ReadsAs text program

-- it is what is emitted for some units by what carries a tangent in them, which exact analyses say
pub record IsTangentEmitted (us : List Procedure) (h : Head) (qs : List Procedure) : Type 0 where
  pub varied : ℕ → Vars
  pub carried : ℕ → Vars
  pub exact : IsCarrying (problem_for us h) varied carried
  pub emitted : qs ≡ tangent_program (carried_by us carried) us h.unit h.vars

-- it is the canonical text of that
pub record IsTangentText (us : List Procedure) (h : Head) (text : List ℕ) : Type 0 where
  pub program : List Procedure
  pub emitted : IsTangentEmitted us h program
  pub is_text : text ≡ text_of program
  pub reads : IsWritten program → ReadsAs text program

-- it is the text of their plan: a line for each statement, with the letters that exact analyses say
pub record IsPlanText (lines : List ℕ) (us : List Procedure) (h : Head) (text : List ℕ) : Type 0 where
  pub said : ℕ → ℕ → Said
  pub takes : ℕ → Bool
  pub tells : TellsPlan (splits_for lines us h) said takes
  pub is_text : text ≡ plan_lines said takes us

abbrev pub IsTextFor : Wanted → List ℕ → List Procedure → Head → List ℕ → Type 0
IsTextFor wanted.Adjoint lines us h text = IsAdjointText lines us h text
IsTextFor wanted.Tangent lines us h text = IsTangentText us h text
IsTextFor wanted.Plan lines us h text = IsPlanText lines us h text
