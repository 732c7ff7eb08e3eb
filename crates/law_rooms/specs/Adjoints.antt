-- Adjoints: what the runs of an adjoint and the dual runs of its source come to with so many statements and on a tape with a room. (docs/THEOREMS.md, "Adjoints")
use Rattle.std.specs.Prelude.{◌≡◌, ℕ, ℤ, List, [], Bool, true, Option}
use Rattle.adj_tree.specs.Code.{Procedure}
use Rattle.def_meaning.specs.Numbers.{words, duals}
use Rattle.def_meaning.specs.Scene.{Done}
use Rattle.def_meaning.specs.Units.{Slot, Output, fits, run_unit}
use Rattle.def_sweep.specs.Tangents.{AreAlike, IsDirection, cells_of, with_direction, tangents_of, product}
use Rattle.def_sweep.specs.MarkedAdjoint.{shadow_flags, shadow_cells, joined_by}
use Rattle.def_sweep.specs.Marking.{ProgramMarks}
use Rattle.def_adjoint.specs.Adjoint.{IsAdjointOf}
use Rattle.def_sweep.specs.Reversals.{ReversedLines}
use Rattle.def_adjoint.specs.Trapped.{IsTrapped}

-- what holds of the adjoint a of a unit u, for an input, shadows of its dummies, of which a takes those that are flagged, and a direction
pub record Balances (flags : List Bool) (ps : List Procedure) (u : Procedure) (vars outvars : List Bool) (qs : List Procedure) (a : Procedure) (input shadows : List (Slot ℤ)) (d : List (List ℤ)) : Type 0 where
  -- they are an input of it
  pub fits : fits words a (joined_by flags input shadows) ≡ true
  -- with no number of statements and no room of the tape its run traps
  pub untrapped : (room : Option ℕ) (k : ℕ) → IsTrapped (run_unit words qs a (joined_by flags input shadows) [] room k) → ⊥
  -- nor does the dual run of u
  pub dual_untrapped : (room : Option ℕ) (k : ℕ) → IsTrapped (run_unit duals ps u (with_direction input d) [] room k) → ⊥
  -- where both are done, with any numbers of statements and any rooms, the product of the adjoints of the independents with the direction is that of the
  -- given adjoints of the dependents with their tangents
  pub products : (room room' : Option ℕ) (k k' used used' : ℕ) (back : Output ℤ) (dual : Output (ℤ × ℤ)) →
      run_unit words qs a (joined_by flags input shadows) [] room k ≡ Done back used → run_unit duals ps u (with_direction input d) [] room' k' ≡ Done dual used' →
      product vars (shadow_cells flags back.slots) d ≡ product outvars (cells_of shadows) (tangents_of (cells_of dual.slots))

-- so it is with the adjoint of a head, on each input on which the head's run is done with some number of statements and on a tape of some room
abbrev pub AdjointsBalance : Type 0
AdjointsBalance =
    (lines : ReversedLines) (m : ProgramMarks) (ps : List Procedure) (name : List ℕ) (vars outvars : List Bool) (qs : List Procedure) → (x : IsAdjointOf lines m ps name vars outvars qs) →
    (input shadows : List (Slot ℤ)) → fits words x.unit input ≡ true → AreAlike input shadows → (d : List (List ℤ)) → IsDirection vars input d →
    (room : Option ℕ) (k used : ℕ) (out : Output ℤ) → run_unit words ps x.unit input [] room k ≡ Done out used →
    Balances (shadow_flags (m.shadowed name) x.unit.dummies) ps x.unit vars outvars qs x.adjoint input shadows d
