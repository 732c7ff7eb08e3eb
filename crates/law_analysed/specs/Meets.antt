-- The marks of exact analyses as marks of a whole program, and that they meet the laws that the theorem on sweeps asks of each unit.
-- (docs/THEOREMS.md, "Sweeps of every statement")
use Rattle.std.specs.Prelude.{◌≡◌, ℕ, List, [], ◌∷◌, Bool, true, false, Some, None, Contains}
use Rattle.adj_tree.specs.Code.{Var, plain, Terms, Mark, unmarked, with_count, count_from, Act, assign, choose, loop, during, call, runtime, Code, stop, step, Procedure}
use Rattle.def_meaning.specs.Written.{find_unit}
use Rattle.def_names.specs.Numbers.{Vars}
use Rattle.def_names.specs.Fault.{Rules}
use Rattle.def_kernel.specs.Kernel.{EachUnit}
use Rattle.def_sweep.specs.Declared.{unit_at}
use Rattle.def_sweep.specs.Program.{emitted_program_with, emitted_program}
use Rattle.law_sweep.specs.Source.{SourceFitsWith, SourceFits}
use Rattle.def_sweep.specs.Adjoint.{IsAdjointWith, IsAdjoint}
use Rattle.law_emitted.specs.Checked.{IsChecked}
use Rattle.law_analysed.specs.MarkedLines.{program_lines, AreLinesApart}
use Rattle.def_sweep.specs.MarkedLines.{reversed_lines}
use Rattle.def_kernel.specs.Form.{IsOneCall}
use Rattle.def_sweep.specs.Plan.{actuals_named}
use Rattle.law_sweep.specs.Kernel.{AsMany}
use Rattle.law_sweep.specs.Laws.{UnitLawsBy}
use Rattle.def_sweep.specs.Schedules.{schedules_by}
use Rattle.def_sweep.specs.Marking.{callee_facts, first_statement}
use Rattle.def_flow.specs.Parts.{Part, parts, find_part}
use Rattle.def_flow.specs.Problem.{Problem, TakesPart, statements_of}
use Rattle.def_flow.specs.Standing.{Standing}
use Rattle.def_flow.specs.Uses.{is_turn}
use Rattle.def_flow.specs.Splits.{split_calls}
use Rattle.def_flow.specs.Activity.{Activity}
use Rattle.def_flow.specs.Live.{Liveness}
use Rattle.def_flow.specs.Analysed.{Analysed}
use Rattle.def_planned.specs.ProgramFacts.{IsUnmarked, program_facts}

-- no step call of a marked loop is to be split
abbrev pub StepsUnsplit : Problem → Type 0
StepsUnsplit k = (g : Part) → TakesPart k g → (s : Standing) → Contains (statements_of g) s → is_turn s.place ≡ true → k.split s.number ≡ false

-- ---- code in kernel form

-- a call gives names, as many as there are dummies, to a unit that is there
pub record GivesNames (units : List Procedure) (name : List ℕ) (args : Terms) : Type 0 where
  pub unit : Procedure
  pub found : find_unit units name ≡ Some unit
  pub given : List (List ℕ)
  pub named : args ≡ actuals_named given
  pub many : AsMany unit.dummies given

-- a mark of a loop with this variable and body: there is none where no loop is reversed by a schedule; else the body is one call
abbrev pub MarkFits : (schedules : Bool) → Var → Code → Mark → Type 0
MarkFits schedules x body unmarked = Unit {0}
MarkFits false x body (with_count n) = ⊥
MarkFits true x body (with_count n) = ((y : List ℕ) × (x ≡ plain y)) × IsOneCall body
MarkFits false x body (count_from y) = ⊥
MarkFits true x body (count_from y) = ((z : List ℕ) × (x ≡ plain z)) × IsOneCall body

abbrev mutual
  pub IsPlainAct : (schedules : Bool) → List Procedure → Act → Type 0
  IsPlainAct schedules units (assign x subs e) = Unit {0}
  IsPlainAct schedules units (choose c a b) = IsPlainCode schedules units a × IsPlainCode schedules units b
  IsPlainAct schedules units (loop x first last by body m) = MarkFits schedules x body m × IsPlainCode schedules units body
  IsPlainAct schedules units (during c body) = IsPlainCode schedules units body
  IsPlainAct schedules units (call name args) = GivesNames units name args
  IsPlainAct schedules units (runtime r) = ⊥

  pub IsPlainCode : (schedules : Bool) → List Procedure → Code → Type 0
  IsPlainCode schedules units stop = Unit {0}
  IsPlainCode schedules units (step line a rest) = IsPlainAct schedules units a × IsPlainCode schedules units rest

-- ---- the laws

-- the calls at the lines of directives meet this
abbrev pub MarkedCallsUnsplit : Type 0
MarkedCallsUnsplit = (lines : ℕ → Bool) (units : List Procedure) (head : ℕ) (vars outvars : List Bool) → StepsUnsplit (record { units = units; head = head; vars = vars; outvars = outvars; split = split_calls lines units })

-- each unit that takes part, is found under its name and is such code meets the laws with the facts of exact analyses, whether marked loops
-- are reversed by schedules or there is none
abbrev pub AnalysedMeets : Type 0
AnalysedMeets =
    (schedules : Bool) (k : Problem) (a : Activity) (l : Liveness) (saved held : ℕ → Vars) → Analysed k a l saved held → StepsUnsplit k →
    (g : Part) → TakesPart k g → find_part (parts k.units) g.unit.name ≡ Some g → IsPlainCode schedules k.units g.unit.body →
    let facts = callee_facts (program_facts k.units k.split a l saved held) k.units in UnitLawsBy (schedules_by schedules facts) facts (facts g.unit.name) (first_statement k.units g.unit.name) g.unit.body

-- so they are all that the law on emitted programs asks of a source: for a checked program in kernel form in which no loop is marked
abbrev pub AnalysedFits : Type 0
AnalysedFits =
    (rules : Rules) (k : Problem) → IsChecked rules k.units → EachUnit (λ u. IsUnmarked u.body) k.units →
    (a : Activity) (l : Liveness) (saved held : ℕ → Vars) → Analysed k a l saved held → StepsUnsplit k → (u : Procedure) → unit_at k.head k.units ≡ u ∷ [] → SourceFits (λ line. None) (program_facts k.units k.split a l saved held) k.units u

-- and what is emitted by their marks is an adjoint
abbrev pub AnalysedIsAdjoint : Type 0
AnalysedIsAdjoint =
    (rules : Rules) (k : Problem) → IsChecked rules k.units → EachUnit (λ u. IsUnmarked u.body) k.units →
    (a : Activity) (l : Liveness) (saved held : ℕ → Vars) → Analysed k a l saved held → StepsUnsplit k → (u : Procedure) → unit_at k.head k.units ≡ u ∷ [] →
    let marks = (program_facts k.units k.split a l saved held).marks in IsAdjoint (λ line. None) marks k.units k.head k.vars k.outvars (emitted_program marks k.units k.head k.vars k.outvars)

-- So it is where marked loops are reversed by schedules, each whose step call is adjointed: for one no two of whose marked loops stand at one
-- line.
abbrev pub AnalysedFitsReversed : Type 0
AnalysedFitsReversed =
    (rules : Rules) (k : Problem) → IsChecked rules k.units → AreLinesApart (program_lines k.units) →
    (a : Activity) (l : Liveness) (saved held : ℕ → Vars) → Analysed k a l saved held → StepsUnsplit k → (u : Procedure) → unit_at k.head k.units ≡ u ∷ [] →
    let w = program_facts k.units k.split a l saved held in SourceFitsWith true (reversed_lines w k.units) w k.units u

-- and what is emitted is an adjoint
abbrev pub AnalysedReverses : Type 0
AnalysedReverses =
    (rules : Rules) (k : Problem) → IsChecked rules k.units → AreLinesApart (program_lines k.units) →
    (a : Activity) (l : Liveness) (saved held : ℕ → Vars) → Analysed k a l saved held → StepsUnsplit k → (u : Procedure) → unit_at k.head k.units ≡ u ∷ [] →
    let w = program_facts k.units k.split a l saved held in IsAdjointWith true (reversed_lines w k.units) w.marks k.units k.head k.vars k.outvars (emitted_program_with true w.marks k.units k.head k.vars k.outvars)
