-- How many steps the reversals in a run of an adjoint advance. (docs/THEOREMS.md, "Reversals of marked loops")
use Rattle.std.specs.Prelude.{◌≡◌, ℕ, ℤ, List, [], Bool, true, Option}
use Rattle.adj_tree.specs.Code.{Procedure}
use Rattle.def_meaning.specs.Numbers.{words}
use Rattle.def_meaning.specs.Scene.{Done}
use Rattle.def_meaning.specs.Log.{log_of}
use Rattle.def_meaning.specs.Units.{Slot, Output, fits, run_unit}
use Rattle.def_sweep.specs.Tangents.{AreAlike}
use Rattle.def_sweep.specs.MarkedAdjoint.{shadow_flags, joined_by}
use Rattle.def_sweep.specs.Marking.{ProgramMarks}
use Rattle.def_sweep.specs.Reversals.{ReversedLines, runs_in}
use Rattle.def_adjoint.specs.Adjoint.{HaveOwnNames, IsAdjointOf}
use Rattle.def_adjoint.specs.LeastCosts.{least_costs}

-- On each input on which the head's run is done, with any number of statements and on a tape of any room: where its adjoint's run is done, too,
-- that advances by the least costs of the head's runs of the loops that are reversed by schedules, together.
abbrev pub AdjointsAdvance : Type 0
AdjointsAdvance =
    (lines : ReversedLines) → HaveOwnNames lines → (m : ProgramMarks) (ps : List Procedure) (name : List ℕ) (vars outvars : List Bool) (qs : List Procedure) → (x : IsAdjointOf lines m ps name vars outvars qs) →
    (input shadows : List (Slot ℤ)) → fits words x.unit input ≡ true → AreAlike input shadows →
    (room room' : Option ℕ) (k k' used used' : ℕ) (out back : Output ℤ) → run_unit words ps x.unit input [] room k ≡ Done out used →
    run_unit words qs x.adjoint (joined_by (shadow_flags (m.shadowed name) x.unit.dummies) input shadows) [] room' k' ≡ Done back used' →
    (log_of back.events).advances ≡ least_costs (runs_in lines out.events)
