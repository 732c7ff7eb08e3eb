-- What it means that a program is the adjoint of a program by marks.
use Rattle.std.specs.Prelude.{◌≡◌, ℕ, ℤ, List, [], ◌∷◌, Bool, true, false, Some, None}
use Rattle.adj_tree.specs.Code.{Procedure}
use Rattle.adj_tree.specs.Lines.{unlined}
use Rattle.def_meaning.specs.Numbers.{words}
use Rattle.def_meaning.specs.Scene.{Done}
use Rattle.def_meaning.specs.Written.{find_unit}
use Rattle.def_meaning.specs.Units.{Slot, Output, fits, run_unit}
use Rattle.def_sweep.specs.Declared.{unit_at}
use Rattle.def_sweep.specs.Names.{adjoint_name}
use Rattle.def_sweep.specs.MarkedProgram.{shadows_behind}
use Rattle.def_sweep.specs.MarkedAdjoint.{shadow_flags, shadow_cells, joined_by}
use Rattle.def_sweep.specs.Tangents.{AreAlike, Ends, IsDirection, Agrees, OthersAreZero, cells_of}
use Rattle.def_sweep.specs.Reversals.{ReversesLoops, ReversedLines}
use Rattle.def_meaning.specs.Event.{Event}
use Rattle.def_sweep.specs.Marking.{ProgramMarks, full_marks}
use Rattle.def_sweep.specs.Program.{adjoint_names_with, all_units}

-- What the adjoint unit a does for an input of u and shadows of its dummies, of which it takes those that are flagged; `told` are the
-- events of the run of u on this input, and `lines` those at which stand the loops that are reversed by a schedule.
pub record TransposesBy (lines : ReversedLines) (flags : List Bool) (ps : List Procedure) (u : Procedure) (vars outvars : List Bool) (qs : List Procedure) (a : Procedure) (input shadows : List (Slot ℤ)) (told : List Event) : Type 0 where
  -- they are an input of it
  pub fits : fits words a (joined_by flags input shadows) ≡ true
  -- its run ends
  pub run : Ends words qs a (joined_by flags input shadows)
  -- the tape is empty again
  pub empties : run.output.tape ≡ []
  -- it reverses the runs of these loops, and no others
  pub reverses : ReversesLoops lines told run.output.events
  -- in each direction the products agree
  pub products : (d : List (List ℤ)) → IsDirection vars input d → Agrees ps u vars outvars input (cells_of shadows) (shadow_cells flags run.output.slots) d
  -- the shadows of the dummies that aren't independent are 0 at the end
  pub others : OthersAreZero vars (shadow_cells flags run.output.slots)

-- the unit of qs that bears the name of the adjoint of the head of ps is its adjoint: it has each dummy of the head followed by its
-- shadow, if it has one, and transposes the derivative of the head on every input on which the head's run is done
pub record IsAdjointWith (schedules : Bool) (lines : ReversedLines) (m : ProgramMarks) (ps : List Procedure) (head : ℕ) (vars outvars : List Bool) (qs : List Procedure) : Type 0 where
  pub unit : Procedure
  pub is_head : unit_at head ps ≡ unit ∷ []
  pub adjoint : Procedure
  pub is_there : find_unit qs (adjoint_name ps unit) ≡ Some adjoint
  pub dummies : adjoint.dummies ≡ shadows_behind (m.shadowed unit.name) (adjoint_names_with schedules m ps (all_units m ps unit) unit) unit.dummies
  pub transposes : (input shadows : List (Slot ℤ)) → fits words unit input ≡ true → AreAlike input shadows → (k used : ℕ) (output : Output ℤ) → run_unit words ps unit input [] None k ≡ Done output used → TransposesBy lines (shadow_flags (m.shadowed unit.name) unit.dummies) ps unit vars outvars qs adjoint input shadows output.events

-- where no loop is reversed by a schedule
abbrev pub IsAdjoint : (lines : ReversedLines) → ProgramMarks → List Procedure → ℕ → List Bool → List Bool → List Procedure → Type 0
IsAdjoint lines m ps head vars outvars qs = IsAdjointWith false lines m ps head vars outvars qs

-- with full marks, by which no loop is reversed by a schedule
abbrev pub IsFullAdjoint : List Procedure → ℕ → List Bool → List Bool → List Procedure → Type 0
IsFullAdjoint ps head vars outvars qs = IsAdjoint (λ line. None) full_marks ps head vars outvars qs

-- a program that differs from an adjoint in line numbers alone is an adjoint as well
abbrev pub OtherLines : Type 0
OtherLines =
    (schedules : Bool) (lines : ReversedLines) (m : ProgramMarks) (ps qs others : List Procedure) (head : ℕ) (vars outvars : List Bool) →
    unlined qs ≡ unlined others → IsAdjointWith schedules lines m ps head vars outvars qs → IsAdjointWith schedules lines m ps head vars outvars others
