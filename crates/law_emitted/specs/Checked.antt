-- That what is emitted for a checked program in kernel form, with full marks or by others that meet the laws, is its adjoint. (docs/THEOREMS.md, "Adjoints")
use Rattle.std.specs.Prelude.{◌≡◌, ℕ, suc, List, [], ◌∷◌, Bool, true, false, IsTrue, Some, None}
use Rattle.adj_tree.specs.Code.{plain, Act, assign, choose, loop, during, call, runtime, Code, stop, step, Procedure}
use Rattle.def_names.specs.Numbers.{next, behind}
use Rattle.law_meaning.specs.Common.{CallsInside}
use Rattle.def_meaning.specs.Written.{find_unit}
use Rattle.def_meaning.specs.Read.{is_extent, looked_at}
use Rattle.def_text.specs.Written.{IsWritten}
use Rattle.def_names.specs.Fault.{Rules}
use Rattle.def_names.specs.Check.{IsSound}
use Rattle.def_kernel.specs.Form.{IsKernel}
use Rattle.def_sweep.specs.Declared.{unit_at}
use Rattle.def_sweep.specs.Facts.{In}
use Rattle.def_sweep.specs.MarkedAdjoint.{SuitHead}
use Rattle.def_sweep.specs.Plan.{Schedules, reversed_by}
use Rattle.def_sweep.specs.Reversals.{ReversedLines}
use Rattle.def_sweep.specs.MarkedUnits.{is_marked, units_of}
use Rattle.def_sweep.specs.Schedules.{schedules_by}
use Rattle.def_sweep.specs.Callees.{CalleeFacts}
use Rattle.law_sweep.specs.Laws.{UnitLaws, UnitLawsBy}
use Rattle.def_sweep.specs.Marking.{full_marks, full_facts, ProgramFacts, callee_facts, facts_in, first_statement, entry_point, end_point}
use Rattle.def_sweep.specs.Program.{has_pair, emitted_program_with, emitted_program}
use Rattle.def_sweep.specs.SplitMarks.{CallsRead}
use Rattle.law_sweep.specs.Source.{SourceFits}
use Rattle.def_sweep.specs.Adjoint.{IsAdjointWith, IsAdjoint, IsFullAdjoint}

-- a program that can be written as a text, that has no fault of names, calls, chains and writes, and that is in kernel form
pub record IsChecked (rules : Rules) (ps : List Procedure) : Type 0 where
  pub written : IsWritten ps
  pub sound : IsSound rules ps
  pub kernel : IsKernel ps

-- ---- by facts that meet the laws

-- facts that meet the laws of each unit, and have the extents of its arrays among what its adjoint needs
pub record AreLawful (w : ProgramFacts) (ps : List Procedure) : Type 0 where
  pub laws : (name : List ℕ) (u : Procedure) → find_unit ps name ≡ Some u → UnitLaws (callee_facts w ps) (callee_facts w ps name) (first_statement ps name) u.body
  pub extents : (name : List ℕ) (u : Procedure) → find_unit ps name ≡ Some u → (d : List ℕ) → is_extent d u.declarations ≡ true → In (plain d) (w.marks.members name)
  -- in units that are called split, for some head: the adjoints of units that they call need nothing but what these read
  pub reads : (head : Procedure) (name : List ℕ) (u : Procedure) → find_unit ps name ≡ Some u → has_pair w.marks ps head name ≡ true → CallsRead (callee_facts w ps) (looked_at ps) u.body

-- Facts that meet the laws of the units of a set, which holds the head and calls no others: of units that the head doesn't reach nothing
-- need be known.
pub record AreLawfulForWith (schedules : Bool) (w : ProgramFacts) (ps : List Procedure) (head : Procedure) : Type 0 where
  pub reached : List ℕ → Bool
  pub head_reached : IsTrue (reached head.name)
  pub closed : (name : List ℕ) (u : Procedure) → find_unit ps name ≡ Some u → IsTrue (reached name) → CallsInside reached u.body
  pub laws : (name : List ℕ) (u : Procedure) → find_unit ps name ≡ Some u → IsTrue (reached name) → UnitLawsBy (schedules_by schedules (callee_facts w ps)) (callee_facts w ps) (callee_facts w ps name) (first_statement ps name) u.body
  pub extents : (name : List ℕ) (u : Procedure) → find_unit ps name ≡ Some u → IsTrue (reached name) → (d : List ℕ) → is_extent d u.declarations ≡ true → In (plain d) (w.marks.members name)
  pub reads : (name : List ℕ) (u : Procedure) → find_unit ps name ≡ Some u → IsTrue (reached name) → has_pair w.marks ps head name ≡ true → CallsRead (callee_facts w ps) (looked_at ps) u.body

-- where no loop is reversed by a schedule
abbrev pub AreLawfulFor : ProgramFacts → List Procedure → Procedure → Type 0
AreLawfulFor w ps head = AreLawfulForWith false w ps head

-- the lines at which marked loops stand tell whether they are reversed by a schedule, and by which units
abbrev mutual
  pub TellsAct : ReversedLines → Schedules → (List ℕ → CalleeFacts) → (ℕ → Bool) → ℕ → ℕ → Act → Type 0
  TellsAct lines r g adjointed i line (assign x subs e) = Unit {0}
  TellsAct lines r g adjointed i line (choose c a b) = TellsCode lines r g adjointed (suc i) a × TellsCode lines r g adjointed (behind (suc i) a) b
  TellsAct lines r g adjointed i line (loop x a b c body n) = (is_marked n ≡ true → lines line ≡ units_of g (reversed_by r adjointed i body n)) × TellsCode lines r g adjointed (suc i) body
  TellsAct lines r g adjointed i line (during c body) = TellsCode lines r g adjointed (suc i) body
  TellsAct lines r g adjointed i line (call name args) = Unit {0}
  TellsAct lines r g adjointed i line (runtime o) = Unit {0}

  pub TellsCode : ReversedLines → Schedules → (List ℕ → CalleeFacts) → (ℕ → Bool) → ℕ → Code → Type 0
  TellsCode lines r g adjointed i stop = Unit {0}
  TellsCode lines r g adjointed i (step line a rest) = TellsAct lines r g adjointed i line a × TellsCode lines r g adjointed (next i a) rest

-- in each unit of a program
abbrev pub LinesTell : ReversedLines → Bool → ProgramFacts → List Procedure → Type 0
LinesTell lines schedules w ps =
    (name : List ℕ) (u : Procedure) → find_unit ps name ≡ Some u → TellsCode lines (schedules_by schedules (callee_facts w ps)) (callee_facts w ps) w.marks.adjointed (first_statement ps name) u.body

-- such a program meets with them all that the law on emitted programs asks of a source, for each of its units as the head
abbrev pub LawfulFits : Type 0
LawfulFits = (rules : Rules) (ps : List Procedure) → IsChecked rules ps → (w : ProgramFacts) → AreLawful w ps → (head : ℕ) (u : Procedure) → unit_at head ps ≡ u ∷ [] → SourceFits (λ line. None) w ps u

-- so what is emitted for it by them is its adjoint, where they suit the head
abbrev pub LawfulIsAdjoint : Type 0
LawfulIsAdjoint =
    (rules : Rules) (ps : List Procedure) → IsChecked rules ps → (w : ProgramFacts) → AreLawful w ps → (head : ℕ) (vars outvars : List Bool) (u : Procedure) → unit_at head ps ≡ u ∷ [] →
    SuitHead (facts_in w u.name).marks (entry_point ps u.name) (end_point ps u.name) u vars outvars → IsAdjoint (λ line. None) w.marks ps head vars outvars (emitted_program w.marks ps head vars outvars)

-- the same where they meet the laws of the units that the head reaches, and where marked loops are reversed by schedules
abbrev pub ReachedIsAdjoint : Type 0
ReachedIsAdjoint =
    (rules : Rules) (ps : List Procedure) → IsChecked rules ps → (w : ProgramFacts) (head : ℕ) (vars outvars : List Bool) (u : Procedure) → unit_at head ps ≡ u ∷ [] →
    (schedules : Bool) (lines : ReversedLines) → AreLawfulForWith schedules w ps u → LinesTell lines schedules w ps →
    SuitHead (facts_in w u.name).marks (entry_point ps u.name) (end_point ps u.name) u vars outvars → IsAdjointWith schedules lines w.marks ps head vars outvars (emitted_program_with schedules w.marks ps head vars outvars)

-- ---- with full marks

-- such a program meets all that the law on emitted programs asks of a source, for each of its units as the head
abbrev pub CheckedFits : Type 0
CheckedFits = (rules : Rules) (ps : List Procedure) → IsChecked rules ps → (head : ℕ) (u : Procedure) → unit_at head ps ≡ u ∷ [] → SourceFits (λ line. None) full_facts ps u

-- so what is emitted for it is its adjoint
abbrev pub CheckedIsAdjoint : Type 0
CheckedIsAdjoint =
    (rules : Rules) (ps : List Procedure) → IsChecked rules ps → (head : ℕ) (vars outvars : List Bool) (u : Procedure) → unit_at head ps ≡ u ∷ [] →
    IsFullAdjoint ps head vars outvars (emitted_program full_marks ps head vars outvars)
