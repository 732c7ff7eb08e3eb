-- What the theorem on whole programs asks of a source in kernel form that was checked, and of the facts about it.
use Rattle.std.specs.Prelude.{◌≡◌, ℕ, List, [], ◌∷◌, Bool, true, false, ◌||◌, Option, Some, None, IsTrue}
use Rattle.adj_tree.specs.Code.{name_eq, Procedure}
use Rattle.def_meaning.specs.Written.{find_unit}
use Rattle.law_meaning.specs.Common.{CallsInside}
use Rattle.def_meaning.specs.Read.{is_extent}
use Rattle.def_names.specs.Numbers.{Vars}
use Rattle.def_meaning.specs.Apart.{has_name, AreApart}
use Rattle.def_sweep.specs.Naming.{AreInside}
use Rattle.def_names.specs.Variables.{variables}
use Rattle.def_sweep.specs.Declared.{unit_at}
use Rattle.def_sweep.specs.MarkedAdjoint.{SuitHead}
use Rattle.law_sweep.specs.Environment.{UnitFitsBy}
use Rattle.def_sweep.specs.Marking.{full_marks, full_facts, ProgramFacts, facts_in, arrays_of, callee_facts, first_statement, entry_point, end_point}
use Rattle.def_sweep.specs.Schedules.{schedules_by}
use Rattle.def_sweep.specs.Program.{answers, has_adjoint, has_pair, is_carried_with, emitted_program_with, emitted_program}
use Rattle.def_sweep.specs.Adjoint.{IsAdjointWith, IsFullAdjoint}
use Rattle.def_sweep.specs.Reversals.{ReversedLines}

-- whether a unit of the list has the name
abbrev pub is_unit : List Procedure → List ℕ → Bool
is_unit [] name = false
is_unit (u ∷ us) name = name_eq u.name name || is_unit us name

-- each call in these units is of a unit of ps
abbrev pub CallUnits : List Procedure → List Procedure → Type 0
CallUnits ps [] = Unit {0}
CallUnits ps (u ∷ us) = CallsInside (is_unit ps) u.body × CallUnits ps us

-- the variables of the unit that was found, and those that are arrays
abbrev pub variables_of : Option Procedure → List (List ℕ)
variables_of None = []
variables_of (Some u) = variables u

abbrev pub arrays_in : Option Procedure → Vars
arrays_in None v = false
arrays_in (Some u) v = arrays_of u v

pub record SourceFitsWith (schedules : Bool) (lines : ReversedLines) (w : ProgramFacts) (ps : List Procedure) (head : Procedure) : Type 0 where
  -- a set of units, by their names, that holds the head and calls no others: the laws are asked of these alone
  pub reached : List ℕ → Bool
  pub head_reached : IsTrue (reached head.name)
  pub closed : (name : List ℕ) (u : Procedure) → find_unit ps name ≡ Some u → IsTrue (reached name) → CallsInside reached u.body
  pub units : (name : List ℕ) (u : Procedure) → find_unit ps name ≡ Some u → IsTrue (reached name) → UnitFitsBy (schedules_by schedules (callee_facts w ps)) lines ps (callee_facts w ps) (has_adjoint w.marks ps head) (answers w.marks ps head) (has_pair w.marks ps head) (is_carried_with schedules w.marks ps head) name u (first_statement ps name) (variables u) (arrays_of u)
  pub apart : (name : List ℕ) (u : Procedure) → find_unit ps name ≡ Some u → AreApart u.dummies
  -- names are of a text
  pub inside : (name : List ℕ) (u : Procedure) → find_unit ps name ≡ Some u → AreInside (variables u)
  -- extents are dummies
  pub extents : (name : List ℕ) (u : Procedure) → find_unit ps name ≡ Some u → (d : List ℕ) → is_extent d u.declarations ≡ true → has_name d u.dummies ≡ true
  pub known : CallUnits ps ps
  -- the head is a unit, and its adjoint isn't called
  pub there : find_unit ps head.name ≡ Some head
  pub uncalled : answers w.marks ps head head.name ≡ false

-- where no loop is reversed by a schedule
abbrev pub SourceFits : (lines : ReversedLines) → ProgramFacts → List Procedure → Procedure → Type 0
SourceFits lines w ps head = SourceFitsWith false lines w ps head

-- the program that is emitted for a source that was checked, by facts that meet the laws and suit the head, is an adjoint of it
abbrev pub EmittedIsAdjoint : Type 0
EmittedIsAdjoint =
    (schedules : Bool) (lines : ReversedLines) (w : ProgramFacts) (ps : List Procedure) (head : ℕ) (vars outvars : List Bool) (u : Procedure) → unit_at head ps ≡ u ∷ [] → SourceFitsWith schedules lines w ps u →
    SuitHead (facts_in w u.name).marks (entry_point ps u.name) (end_point ps u.name) u vars outvars → IsAdjointWith schedules lines w.marks ps head vars outvars (emitted_program_with schedules w.marks ps head vars outvars)

-- with full marks
abbrev pub FullIsAdjoint : Type 0
FullIsAdjoint =
    (ps : List Procedure) (head : ℕ) (vars outvars : List Bool) (u : Procedure) → unit_at head ps ≡ u ∷ [] → SourceFits (λ line. None) full_facts ps u → IsFullAdjoint ps head vars outvars (emitted_program full_marks ps head vars outvars)
