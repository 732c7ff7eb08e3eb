-- What runs leave in dummies, and what their reversals call.
use Rattle.std.specs.Prelude.{ℕ, ℤ, List, [], ◌∷◌, map, Option, Some, None}
use Rattle.adj_tree.specs.Code.{Procedure}
use Rattle.def_meaning.specs.Numbers.{words}
use Rattle.def_meaning.specs.Scene.{Outcome, Done, Trapped, More, Full}
use Rattle.def_meaning.specs.Store.{scalar}
use Rattle.def_meaning.specs.Written.{find_unit}
use Rattle.def_meaning.specs.Units.{Slot, Output, run_unit}
use Rattle.def_sweep.specs.Reversals.{Reversal, times, reversals_in}

abbrev word : ℤ → Slot ℤ
word z = record { shape = scalar; cells = z ∷ [] }

abbrev cells_in : List (Slot ℤ) → List (List ℤ)
cells_in [] = []
cells_in (s ∷ ss) = s.cells ∷ cells_in ss

-- of each reversal: its steps, its snapshots, and how often it calls each of these units
abbrev called : List (List ℕ) → List Reversal → List (List ℕ)
called units [] = []
called units (r ∷ rs) = (r.steps ∷ r.snapshots ∷ map (λ unit. times unit r.calls) units) ∷ called units rs

-- what the dummies hold after a run that is done, and what its reversals call
abbrev told_of : List (List ℕ) → Outcome (Output ℤ) → List (List ℤ) × List (List ℕ)
told_of units (Done out k) = (cells_in out.slots, called units (reversals_in out.events))
told_of units (Trapped t line w) = ([], [])
told_of units (More w) = ([], [])
told_of units (Full w) = ([], [])

abbrev told_by : List (List ℕ) → Option Procedure → List Procedure → List ℤ → ℕ → List (List ℤ) × List (List ℕ)
told_by units None qs zs k = ([], [])
told_by units (Some a) qs zs k = told_of units (run_unit words qs a (map word zs) [] None k)

-- so of the unit of a name, on these words
abbrev pub told_after : List (List ℕ) → List Procedure → List ℕ → List ℤ → ℕ → List (List ℤ) × List (List ℕ)
told_after units qs name zs k = told_by units (find_unit qs name) qs zs k
