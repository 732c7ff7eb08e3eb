-- Runs, dual runs and what they tell, where the worked programs of the language don't look.
use Rattle.std.specs.Prelude.{◌≡◌, ℕ, pos, negsuc, [], ◌∷◌, true, false, Some, None}
use Rattle.adj_tree.specs.Code.{plain, bin, minus, runtime, push_control, pop_control, stop, step, Procedure}
use Rattle.def_meaning.specs.Event.{Event, Enter, Begin, End, Marked}
use Rattle.def_meaning.specs.Log.{Log, log_of}
use Rattle.def_meaning.specs.Numbers.{words}
use Rattle.def_meaning.specs.Scene.{Stand, Outcome, Done, Trapped, More, Full}
use Rattle.def_meaning.specs.Store.{size_of, cell_of}
use Rattle.def_meaning.specs.Trap.{index}
use Rattle.def_meaning.specs.Units.{shape_of, entry_store, nth_cell, fits}
use Rattle.law_meaning.specs.Unlined.{unlined_event, ended_unlined}
use Rattle.law_meaning.specs.Samples.{one_cell, row_of, last_of, name_p, name_x, name_y, name_z, of, of_two, subroutine, scalars, runs, gives}

-- CALL PUSHCONTROL1B(X), CALL POPCONTROL1B(Y)
abbrev pub controls : Procedure
controls = subroutine 1 name_p (name_x ∷ name_y ∷ []) [] (step 2 (runtime (push_control (of name_x))) (step 3 (runtime (pop_control (plain name_y))) stop))

abbrev pub ControlPopped : Type 0
ControlPopped = runs [] controls (scalars (pos 7 ∷ pos 0 ∷ [])) 100 ≡ gives (pos 7 ∷ pos 7 ∷ []) 2

-- Y=X-Z
abbrev pub Difference : Type 0
Difference =
    (runs [] (of_two (bin minus (of name_x) (of name_z))) (scalars (pos 7 ∷ pos 3 ∷ pos 0 ∷ [])) 100 ≡ gives (pos 7 ∷ pos 3 ∷ pos 4 ∷ []) 1)
    × (runs [] (of_two (bin minus (of name_x) (of name_z))) (scalars (pos 3 ∷ pos 7 ∷ pos 0 ∷ [])) 100 ≡ gives (pos 3 ∷ pos 7 ∷ negsuc 3 ∷ []) 1)

-- a scalar has no rows and no columns, and one cell
abbrev pub Shapes : Type 0
Shapes =
    (shape_of [] ≡ record { rows = 0; cols = 0 })
    × (shape_of (pos 3 ∷ []) ≡ record { rows = 3; cols = 0 })
    × (shape_of (pos 3 ∷ pos 4 ∷ []) ≡ record { rows = 3; cols = 4 })
    × (shape_of (negsuc 3 ∷ []) ≡ record { rows = 0; cols = 0 })
    × (size_of (record { rows = 0; cols = 0 }) ≡ 1) × (size_of (record { rows = 3; cols = 0 }) ≡ 3) × (size_of (record { rows = 3; cols = 4 }) ≡ 12)
    × (cell_of (record { rows = 3; cols = 4 }) (pos 2 ∷ pos 3 ∷ []) ≡ Some 7) × (cell_of (record { rows = 3; cols = 4 }) (pos 3 ∷ pos 5 ∷ []) ≡ None) × (cell_of (record { rows = 3; cols = 4 }) (pos 4 ∷ pos 1 ∷ []) ≡ None)
    × (cell_of (record { rows = 3; cols = 0 }) (pos 3 ∷ []) ≡ Some 2) × (cell_of (record { rows = 3; cols = 0 }) [] ≡ None) × (cell_of (record { rows = 3; cols = 4 }) (pos 1 ∷ pos 1 ∷ pos 1 ∷ []) ≡ None)

abbrev pub logged : ℕ → ℕ → ℕ → Log
logged reversals advances height = record { reversals = reversals; advances = advances; height = height }

abbrev pub enter : ℕ → ℕ → Event
enter level height = Enter name_p level height []

-- what a log counts: reversals, the calls directly in them past their steps, and the words above their starts at such calls
abbrev pub Logs : Type 0
Logs =
    (log_of [] ≡ logged 0 0 0)
    × (log_of (enter 1 5 ∷ End 1 ∷ Marked 3 4 5 ∷ []) ≡ logged 0 0 0)
    × (log_of (enter 1 0 ∷ Begin 1 1 1 5 ∷ enter 2 7 ∷ enter 3 20 ∷ enter 2 6 ∷ enter 2 6 ∷ Marked 3 4 5 ∷ End 1 ∷ enter 2 30 ∷ []) ≡ logged 1 2 2)
    × (log_of (Begin 3 1 1 5 ∷ enter 2 5 ∷ End 1 ∷ []) ≡ logged 1 0 0)
    × (log_of (Begin 0 1 1 5 ∷ enter 2 9 ∷ Begin 0 1 2 10 ∷ enter 2 30 ∷ enter 3 11 ∷ End 2 ∷ enter 2 6 ∷ End 1 ∷ []) ≡ logged 2 3 4)

-- one slot for each dummy, with as many cells as its shape has; a cell past the end of a list is 0, and so is a dummy without an actual
abbrev pub Fitting : Type 0
Fitting =
    (fits words controls (scalars (pos 7 ∷ pos 0 ∷ [])) ≡ true)
    × (nth_cell words (pos 7 ∷ pos 8 ∷ []) 1 ≡ pos 8) × (nth_cell words (pos 7 ∷ []) 1 ≡ pos 0) × (entry_store words (name_x ∷ []) [] (plain name_x) 0 ≡ pos 0) × (entry_store words [] [] (plain name_x) 0 ≡ pos 0)
    × (fits words controls (scalars (pos 7 ∷ [])) ≡ false)
    × (fits words controls (scalars (pos 7 ∷ pos 0 ∷ pos 0 ∷ [])) ≡ false)
    × (fits words controls (record { shape = record { rows = 0; cols = 0 }; cells = [] } ∷ scalars (pos 0 ∷ [])) ≡ false)
    × (fits words controls (record { shape = record { rows = 1; cols = 0 }; cells = pos 1 ∷ [] } ∷ scalars (pos 0 ∷ [])) ≡ false)
    × (fits words (last_of 1) (one_cell (pos 2) ∷ row_of 2 (pos 8 ∷ pos 9 ∷ []) ∷ []) ≡ true)
    × (fits words (last_of 1) (one_cell (pos 3) ∷ row_of 2 (pos 8 ∷ pos 9 ∷ []) ∷ []) ≡ false)

-- what stands where a run stops, with an event at this line
abbrev pub at_line : ℕ → Stand
at_line line = record { tape = []; events = Marked line 2 3 ∷ [] }

abbrev pub counted_out : Outcome ℕ → Outcome ℕ
counted_out o = ended_unlined (λ m. m) o

-- ends of runs without lines
abbrev pub UnlinedEnds : Type 0
UnlinedEnds =
    (counted_out (Done 4 5) ≡ Done 4 5) × (counted_out (Trapped index 7 (at_line 8)) ≡ Trapped index 0 (at_line 0)) × (counted_out (More (at_line 8)) ≡ More (at_line 0)) × (counted_out (Full (at_line 8)) ≡ Full (at_line 0))

-- events without lines
abbrev pub UnlinedEvents : Type 0
UnlinedEvents =
    (unlined_event (Marked 7 2 3) ≡ Marked 0 2 3) × (unlined_event (Enter name_p 1 2 []) ≡ Enter name_p 1 2 []) × (unlined_event (Begin 4 3 2 1) ≡ Begin 4 3 2 1) × (unlined_event (End 3) ≡ End 3)
