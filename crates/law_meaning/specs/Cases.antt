-- Worked programs for the corners of the definitions, and what their runs give.
use Rattle.std.specs.Prelude.{◌≡◌, ℕ, ℤ, pos, negsuc, List, [], ◌∷◌, true, false, None, Ok}
use Rattle.adj_tree.specs.Code.{plain, neg, bin, pow, power_of, plus, times, minus, modulo, greater, lesser, none, more, Test, Rel, is_less, is_most, is_same, is_other, is_greater, is_least, compare, negation, conjunction, disjunction, assign, choose, Mark, unmarked, with_count, count_from, loop, during, push_word, pop_array, begin_reversal, count_actions, give_action, end_reversal, stop, step, Declaration, fixed, Procedure}
use Rattle.def_meaning.specs.Trap.{division, index, step_trap, tape_trap, schedule_trap, power_trap}
use Rattle.def_meaning.specs.Numbers.{words}
use Rattle.def_meaning.specs.Store.{Shape, scalar}
use Rattle.def_meaning.specs.Value.{Setting, exponent_of, holds}
use Rattle.def_meaning.specs.Event.{Event, Enter, Begin, End, Marked}
use Rattle.def_meaning.specs.Scene.{Outcome, Done, Trapped, More, then_do}
use Rattle.def_meaning.specs.Units.{Slot, shape_fits, fits, calls_of, run_unit}
use Rattle.def_meaning.specs.Run.{most_tests, tests, run}
use Rattle.law_meaning.specs.Samples.{name_a, name_i, name_j, name_k, name_n, name_p, name_r, name_x, name_y, name_z, of, literal, only, gets, array, subroutine, scalars, row_of, one_cell, singles, vector, at_first, runs, dual_runs, gives, of_two, GivesDual, with_call, least_word, greatest_word}

-- ---- IF (X.LT.Z) THEN, Y=1, ELSE, Y=2, END IF, and so for each relation

abbrev pub branch : Test → Procedure
branch test = subroutine 1 name_p (name_x ∷ name_z ∷ name_y ∷ []) [] (step 3 (choose test (step 4 (gets name_y (literal 1)) stop) (step 5 (gets name_y (literal 2)) stop)) stop)

abbrev pub Takes : Test → ℤ → ℤ → ℤ → Type 0
Takes test x z y = runs [] (branch test) (scalars (x ∷ z ∷ pos 0 ∷ [])) 100 ≡ gives (x ∷ z ∷ y ∷ []) 2

-- with Z=5: below it, at it and above it
abbrev pub Decides : Rel → ℤ → ℤ → ℤ → Type 0
Decides r below at above = Takes (compare r (of name_x) (of name_z)) (pos 4) (pos 5) below × Takes (compare r (of name_x) (of name_z)) (pos 5) (pos 5) at × Takes (compare r (of name_x) (of name_z)) (pos 6) (pos 5) above

abbrev pub EachRelation : Type 0
EachRelation =
    Decides is_less (pos 1) (pos 2) (pos 2)
    × Decides is_most (pos 1) (pos 1) (pos 2)
    × Decides is_same (pos 2) (pos 1) (pos 2)
    × Decides is_other (pos 1) (pos 2) (pos 1)
    × Decides is_greater (pos 2) (pos 2) (pos 1)
    × Decides is_least (pos 2) (pos 1) (pos 1)

-- words are compared with their signs
abbrev pub SignsCompared : Type 0
SignsCompared =
    Takes (compare is_less (of name_x) (of name_z)) least_word greatest_word (pos 1)
    × Takes (compare is_less (of name_x) (of name_z)) (negsuc 0) (pos 0) (pos 1)
    × Takes (compare is_less (of name_x) (of name_z)) (negsuc 0) (negsuc 1) (pos 2)

abbrev pub positive : List ℕ → Test
positive x = compare is_greater (of x) (literal 0)

-- .NOT., .AND. and .OR. of X>0 and Z>0; the second operand is evaluated even where the first decides
abbrev pub ConditionsJoined : Type 0
ConditionsJoined =
    Takes (negation (positive name_x)) (pos 1) (pos 0) (pos 2)
    × Takes (negation (positive name_x)) (pos 0) (pos 0) (pos 1)
    × Takes (conjunction (positive name_x) (positive name_z)) (pos 1) (pos 1) (pos 1)
    × Takes (conjunction (positive name_x) (positive name_z)) (pos 1) (pos 0) (pos 2)
    × Takes (conjunction (positive name_x) (positive name_z)) (pos 0) (pos 1) (pos 2)
    × Takes (disjunction (positive name_x) (positive name_z)) (pos 1) (pos 0) (pos 1)
    × Takes (disjunction (positive name_x) (positive name_z)) (pos 0) (pos 1) (pos 1)
    × Takes (disjunction (positive name_x) (positive name_z)) (pos 0) (pos 0) (pos 2)
    × (runs [] (branch (disjunction (positive name_x) (compare is_same (bin modulo (of name_x) (of name_z)) (literal 0)))) (scalars (pos 1 ∷ pos 0 ∷ pos 0 ∷ [])) 100 ≡ Trapped division 3 (at_first (singles 3)))

-- ---- A(I,J)=9 with INTEGER*8 A(2,3)

abbrev pub table : Declaration
table = record { line = 2; name = name_a; extents = fixed (pos 2) ∷ fixed (pos 3) ∷ [] }

abbrev pub set_in_table : Procedure
set_in_table = subroutine 1 name_p (name_i ∷ name_j ∷ name_a ∷ []) (table ∷ []) (step 3 (assign (plain name_a) (more (of name_i) (only (of name_j))) (literal 9)) stop)

abbrev pub table_shape : Shape
table_shape = record { rows = 2; cols = 3 }

abbrev pub table_of : List ℤ → Slot ℤ
table_of cs = record { shape = table_shape; cells = cs }

abbrev pub table_run : ℤ → ℤ → Outcome (List (List ℤ) × List ℤ)
table_run i j = runs [] set_in_table (one_cell i ∷ one_cell j ∷ table_of (pos 1 ∷ pos 2 ∷ pos 3 ∷ pos 4 ∷ pos 5 ∷ pos 6 ∷ []) ∷ []) 100

-- the first subscript counts rows and varies fastest; each lies within its own extent
abbrev pub RowsAndColumns : Type 0
RowsAndColumns =
    (table_run (pos 2) (pos 1) ≡ Done ((pos 2 ∷ []) ∷ (pos 1 ∷ []) ∷ (pos 1 ∷ pos 9 ∷ pos 3 ∷ pos 4 ∷ pos 5 ∷ pos 6 ∷ []) ∷ [], []) 1)
    × (table_run (pos 1) (pos 2) ≡ Done ((pos 1 ∷ []) ∷ (pos 2 ∷ []) ∷ (pos 1 ∷ pos 2 ∷ pos 9 ∷ pos 4 ∷ pos 5 ∷ pos 6 ∷ []) ∷ [], []) 1)
    × (table_run (pos 2) (pos 3) ≡ Done ((pos 2 ∷ []) ∷ (pos 3 ∷ []) ∷ (pos 1 ∷ pos 2 ∷ pos 3 ∷ pos 4 ∷ pos 5 ∷ pos 9 ∷ []) ∷ [], []) 1)
    × (table_run (pos 3) (pos 2) ≡ Trapped index 3 (at_first (scalar ∷ scalar ∷ table_shape ∷ [])))
    × (table_run (pos 1) (pos 4) ≡ Trapped index 3 (at_first (scalar ∷ scalar ∷ table_shape ∷ [])))
    × (table_run (pos 0) (pos 2) ≡ Trapped index 3 (at_first (scalar ∷ scalar ∷ table_shape ∷ [])))
    × (table_run (pos 1) (pos 0) ≡ Trapped index 3 (at_first (scalar ∷ scalar ∷ table_shape ∷ [])))
    × (table_run (negsuc 0) (pos 2) ≡ Trapped index 3 (at_first (scalar ∷ scalar ∷ table_shape ∷ [])))

-- ---- extents

-- an extent is at least 1, and an array has at most 1048576 elements; rows and columns are the first extent and the second
abbrev pub ExtentsThatFit : Type 0
ExtentsThatFit =
    (shape_fits (pos 1 ∷ []) (record { rows = 1; cols = 0 }) ≡ true)
    × (shape_fits (pos 0 ∷ []) (record { rows = 0; cols = 0 }) ≡ false)
    × (shape_fits (negsuc 0 ∷ []) (record { rows = 0; cols = 0 }) ≡ false)
    × (shape_fits (pos 2 ∷ pos 3 ∷ []) (record { rows = 2; cols = 3 }) ≡ true)
    × (shape_fits (pos 2 ∷ pos 3 ∷ []) (record { rows = 3; cols = 2 }) ≡ false)
    × (shape_fits (pos 2 ∷ pos 0 ∷ []) (record { rows = 2; cols = 0 }) ≡ false)
    × (shape_fits (pos 1048576 ∷ []) (record { rows = 1048576; cols = 0 }) ≡ true)
    × (shape_fits (pos 1048577 ∷ []) (record { rows = 1048577; cols = 0 }) ≡ false)
    × (shape_fits (pos 1024 ∷ pos 1024 ∷ []) (record { rows = 1024; cols = 1024 }) ≡ true)
    × (shape_fits (pos 1024 ∷ pos 1025 ∷ []) (record { rows = 1024; cols = 1025 }) ≡ false)
    × (fits words set_in_table (one_cell (pos 1) ∷ one_cell (pos 1) ∷ table_of (pos 1 ∷ pos 2 ∷ pos 3 ∷ pos 4 ∷ pos 5 ∷ pos 6 ∷ []) ∷ []) ≡ true)
    × (fits words set_in_table (one_cell (pos 1) ∷ one_cell (pos 1) ∷ table_of (pos 1 ∷ pos 2 ∷ pos 3 ∷ pos 4 ∷ pos 5 ∷ []) ∷ []) ≡ false)

-- ---- schedules

abbrev pub three_names : List (List ℕ)
three_names = name_i ∷ name_j ∷ name_k ∷ []

-- an action for three steps and one snapshot gives these three words
abbrev pub Gives : ℕ → ℤ → ℤ → ℤ → Type 0
Gives m kind lower upper =
    runs [] (with_call three_names [] (give_action (literal 3) (literal 1) (literal m) (plain name_i) (plain name_j) (plain name_k) ∷ [])) (scalars (pos 0 ∷ pos 0 ∷ pos 0 ∷ [])) 100
    ≡ gives (kind ∷ lower ∷ upper ∷ []) 1

-- store 0, advance from 0 to 2, turn 2, keep 0, advance from 0 to 1, turn 1, drop 0, turn 0
abbrev pub EachAction : Type 0
EachAction =
    Gives 1 (pos 1) (pos 0) (pos 0)
    × Gives 2 (pos 2) (pos 0) (pos 2)
    × Gives 3 (pos 3) (pos 2) (pos 3)
    × Gives 4 (pos 4) (pos 0) (pos 0)
    × Gives 5 (pos 2) (pos 0) (pos 1)
    × Gives 6 (pos 3) (pos 1) (pos 2)
    × Gives 7 (pos 5) (pos 0) (pos 0)
    × Gives 8 (pos 3) (pos 0) (pos 1)

abbrev pub no_such_action : ℤ → Outcome (List (List ℤ) × List ℤ)
no_such_action z = runs [] (with_call (name_n ∷ []) [] (give_action (literal 3) (literal 1) (of name_n) (plain name_i) (plain name_j) (plain name_k) ∷ [])) (scalars (z ∷ [])) 100

-- there are eight, counted from 1
abbrev pub NoOtherAction : Type 0
NoOtherAction =
    (no_such_action (pos 0) ≡ Trapped schedule_trap 2 (at_first (singles 1)))
    × (no_such_action (pos 9) ≡ Trapped schedule_trap 2 (at_first (singles 1)))
    × (no_such_action (negsuc 0) ≡ Trapped schedule_trap 2 (at_first (singles 1)))
    × (runs [] (with_call (name_n ∷ []) [] (count_actions (literal 3) (literal 1) (plain name_n) ∷ [])) (scalars (pos 0 ∷ [])) 100 ≡ gives (pos 8 ∷ []) 1)
    × (runs [] (with_call (name_n ∷ []) [] (count_actions (literal 0) (literal 1) (plain name_n) ∷ [])) (scalars (pos 7 ∷ [])) 100 ≡ gives (pos 0 ∷ []) 1)

abbrev pub begins_with : Procedure
begins_with = with_call (name_x ∷ name_y ∷ []) [] (begin_reversal (of name_x) (of name_y) ∷ end_reversal ∷ [])

abbrev pub Begins : ℕ → ℕ → Type 0
Begins l s = then_do (run_unit words (begins_with ∷ []) begins_with (scalars (pos l ∷ pos s ∷ [])) [] None 100) (λ out used. Done out.events used) ≡ Done (Enter name_p 1 0 (singles 2) ∷ Begin l s 1 0 ∷ End 1 ∷ []) 2

abbrev pub Refuses : ℤ → ℤ → Type 0
Refuses l s = runs [] begins_with (scalars (l ∷ s ∷ [])) 100 ≡ Trapped schedule_trap 2 (at_first (singles 2))

-- a reversal has from 0 to 2 ^ 40 steps, and from 1 to 64 snapshots
abbrev pub EndsOfReversals : Type 0
EndsOfReversals =
    Begins 0 1 × Begins 1099511627776 64
    × Refuses (negsuc 0) (pos 1) × Refuses (pos 1099511627777) (pos 1)
    × Refuses (pos 1) (pos 0) × Refuses (pos 1) (pos 65) × Refuses (pos 1) (negsuc 0)

-- ---- how often a DO turns

abbrev pub turns_to : Mark → Procedure
turns_to m = subroutine 1 name_p (name_x ∷ name_y ∷ []) [] (step 3 (loop (plain name_i) (of name_x) (of name_y) (literal 1) stop m) stop)

abbrev pub turn_run : Mark → ℤ → ℤ → Outcome (List (List ℤ) × List ℤ)
turn_run m x y = runs [] (turns_to m) (scalars (x ∷ y ∷ [])) 3

-- a loop that isn't marked turns at most 2 ^ 63 - 1 times, and one that is marked at most 2 ^ 40 times; with more it traps at once
abbrev pub LongLoops : Type 0
LongLoops =
    (turn_run unmarked (pos 1) greatest_word ≡ More (at_first (singles 2)))
    × (turn_run unmarked (pos 0) greatest_word ≡ Trapped step_trap 3 (at_first (singles 2)))
    × (turn_run unmarked least_word greatest_word ≡ Trapped step_trap 3 (at_first (singles 2)))
    × (turn_run (with_count 5) (pos 1) (pos 1099511627776) ≡ More (at_first (singles 2)))
    × (turn_run (with_count 5) (pos 0) (pos 1099511627776) ≡ Trapped step_trap 3 (at_first (singles 2)))
    × (turn_run (count_from (plain name_y)) (pos 1) (pos 1099511627776) ≡ More (at_first (singles 2)))
    × (turn_run (count_from (plain name_y)) (pos 0) (pos 1099511627776) ≡ Trapped step_trap 3 (at_first (singles 2)))

-- where a DO doesn't turn its variable has its first value
abbrev pub NoTurn : Type 0
NoTurn =
    runs [] (subroutine 1 name_p (name_i ∷ []) [] (step 3 (loop (plain name_i) (literal 5) (literal 4) (literal 1) stop unmarked) stop)) (scalars (pos 0 ∷ [])) 100 ≡ gives (pos 5 ∷ []) 1

-- ---- tangents

-- of a difference, a product, a negation; and of MAX and MIN at ties, where the first argument is taken whichever it is
abbrev pub OtherTangents : Type 0
OtherTangents =
    GivesDual (bin minus (of name_x) (of name_z)) (pos 7, pos 5) (pos 3, pos 2) (pos 4, pos 3)
    × GivesDual (bin minus (of name_x) (of name_z)) (pos 3, pos 2) (pos 7, pos 5) (negsuc 3, negsuc 2)
    × GivesDual (bin times (of name_x) (of name_z)) (pos 3, pos 2) (pos 5, pos 7) (pos 15, pos 31)
    × GivesDual (neg (of name_x)) (pos 3, pos 2) (pos 0, pos 0) (negsuc 2, negsuc 1)
    × GivesDual (bin greater (of name_z) (of name_x)) (pos 4, pos 10) (pos 4, pos 20) (pos 4, pos 20)
    × GivesDual (bin lesser (of name_z) (of name_x)) (pos 4, pos 10) (pos 4, pos 20) (pos 4, pos 20)
    × GivesDual (pow (of name_x) 1) (pos 0, pos 10) (pos 0, pos 0) (pos 0, pos 10)

-- ---- what stands where a run stops

-- of two words that are to be popped there is one: it went into its cell, and the tape is empty at the trap
abbrev pub PoppedInPart : Type 0
PoppedInPart =
    runs [] (with_call (name_a ∷ []) (array 2 name_a 2 ∷ []) (push_word (plain name_k) none ∷ pop_array (plain name_a) ∷ [])) (row_of 2 (pos 1 ∷ pos 1 ∷ []) ∷ []) 100 ≡ Trapped tape_trap 3 (at_first (vector 2 ∷ []))

-- ---- Y=X**Z

-- the tangent of a power is that of its base times n*X**(n-1), and 0 for the exponent 0; the tangent of the exponent isn't looked at
abbrev pub PowerOfVariable : Type 0
PowerOfVariable =
    GivesDual (power_of (of name_x) (of name_z)) (pos 3, pos 1) (pos 4, pos 7) (pos 81, pos 108)
    × GivesDual (power_of (of name_x) (of name_z)) (pos 3, pos 1) (pos 0, pos 7) (pos 1, pos 0)
    × GivesDual (power_of (of name_x) (of name_z)) (pos 0, pos 1) (pos 1, pos 7) (pos 0, pos 1)
    × GivesDual (power_of (of name_x) (of name_z)) (pos 0, pos 1) (pos 0, pos 7) (pos 1, pos 0)
    × GivesDual (power_of (of name_x) (of name_z)) (pos 2, pos 1) (pos 63, pos 0) (least_word, negsuc 4611686018427387903)
    × GivesDual (power_of (of name_x) (of name_z)) (negsuc 1, pos 1) (pos 3, pos 0) (negsuc 7, pos 12)

-- an exponent below 0 or above 4294967295 traps
abbrev pub ExponentsThatTrap : Type 0
ExponentsThatTrap =
    (exponent_of (pos 4294967295) ≡ Ok 4294967295)
    × (runs [] (of_two (power_of (of name_x) (of name_z))) (scalars (pos 3 ∷ negsuc 0 ∷ pos 0 ∷ [])) 100 ≡ Trapped power_trap 3 (at_first (singles 3)))
    × (runs [] (of_two (power_of (of name_x) (of name_z))) (scalars (pos 3 ∷ pos 4294967296 ∷ pos 0 ∷ [])) 100 ≡ Trapped power_trap 3 (at_first (singles 3)))
    × (runs [] (of_two (power_of (bin modulo (of name_x) (literal 0)) (of name_z))) (scalars (pos 3 ∷ negsuc 0 ∷ pos 0 ∷ [])) 100 ≡ Trapped division 3 (at_first (singles 3)))

-- ---- R=1, I=0, DO WHILE (I.LT.N), R=R*X, I=I+1, END DO

abbrev pub powers_during : Test → Procedure
powers_during test =
    subroutine 1 name_p (name_n ∷ name_x ∷ name_r ∷ []) []
    (step 3 (gets name_r (literal 1)) (step 4 (gets name_i (literal 0))
    (step 5 (during test (step 6 (gets name_r (bin times (of name_r) (of name_x))) (step 7 (gets name_i (bin plus (of name_i) (literal 1))) stop))) stop)))

-- N=5 and X=2 give 32 after 18 statements, of which six are tests; with one fewer there is more to do; N=0 leaves R at 1 after one test;
-- where the test always holds there is more to do
abbrev pub PowersDuring : Type 0
PowersDuring =
    (runs [] (powers_during (compare is_less (of name_i) (of name_n))) (scalars (pos 5 ∷ pos 2 ∷ pos 0 ∷ [])) 18 ≡ gives (pos 5 ∷ pos 2 ∷ pos 32 ∷ []) 18)
    × (runs [] (powers_during (compare is_less (of name_i) (of name_n))) (scalars (pos 5 ∷ pos 2 ∷ pos 0 ∷ [])) 17 ≡ More (at_first (singles 3)))
    × (runs [] (powers_during (compare is_less (of name_i) (of name_n))) (scalars (pos 0 ∷ pos 2 ∷ pos 0 ∷ [])) 100 ≡ gives (pos 0 ∷ pos 2 ∷ pos 1 ∷ []) 3)
    × (runs [] (powers_during (compare is_least (of name_i) (literal 0))) (scalars (pos 5 ∷ pos 2 ∷ pos 0 ∷ [])) 100 ≡ More (at_first (singles 3)))
    × (dual_runs [] (powers_during (compare is_less (of name_i) (of name_n))) (scalars ((pos 5, pos 0) ∷ (pos 2, pos 1) ∷ (pos 0, pos 0) ∷ [])) 18 ≡ gives ((pos 5, pos 0) ∷ (pos 2, pos 1) ∷ (pos 32, pos 80) ∷ []) 18)
    × (runs [] (powers_during (compare is_less (bin modulo (of name_i) (literal 0)) (of name_n))) (scalars (pos 5 ∷ pos 2 ∷ pos 0 ∷ [])) 100 ≡ Trapped division 5 (at_first (singles 3)))

-- I=I+1 while I is below a number, with so many turns at most: what is in I at the end, and the statements that are left
abbrev pub counting : Setting ℤ
counting = record { numbers = words; shape = λ x. scalar; room = None; level = 1 }

abbrev pub counted_up : ℕ → ℕ → Outcome ℤ
counted_up below most =
    then_do (tests counting most (λ s. holds counting (compare is_less (of name_i) (literal below)) s.store) 7 (run (calls_of [] 0) counting (step 8 (gets name_i (bin plus (of name_i) (literal 1))) stop))
    (record { store = λ x i. pos 0; tape = []; opened = 0; events = [] }) 100) (λ s k. Done (s.store (plain name_i) 0) k)

-- the test after the last turn traps where it holds, and ends the DO WHILE where it fails; there are 2 ^ 63 - 1 turns at most
abbrev pub LastTests : Type 0
LastTests =
    (counted_up 2 2 ≡ Done (pos 2) 96)
    × (counted_up 2 1 ≡ Trapped step_trap 7 (record { tape = []; events = [] }))
    × (counted_up 0 0 ≡ Done (pos 0) 100)
    × (counted_up 1 0 ≡ Trapped step_trap 7 (record { tape = []; events = [] }))
    × (most_tests ≡ 9223372036854775807)

-- ---- marked loops whose number of snapshots is a variable

-- DO I=N,N that sets N, marked with N
abbrev pub marked_by_n : Procedure
marked_by_n =
    subroutine 1 name_p (name_n ∷ []) []
    (step 3 (loop (plain name_n) (of name_n) (of name_n) (literal 1) (step 4 (gets name_n (literal 5)) stop) (count_from (plain name_n))) stop)

abbrev pub marked_events : ℤ → Outcome (List Event)
marked_events z = then_do (run_unit words (marked_by_n ∷ []) marked_by_n (scalars (z ∷ [])) [] None 100) (λ out used. Done out.events used)

-- the number in force is that before the loop's variable is set: 1 where it is below 1, and 64 where it is above 64
abbrev pub CountsInForce : Type 0
CountsInForce =
    (marked_events (pos 7) ≡ Done (Enter name_p 1 0 (singles 1) ∷ Marked 3 1 7 ∷ []) 3)
    × (marked_events (pos 0) ≡ Done (Enter name_p 1 0 (singles 1) ∷ Marked 3 1 1 ∷ []) 3)
    × (marked_events (negsuc 8) ≡ Done (Enter name_p 1 0 (singles 1) ∷ Marked 3 1 1 ∷ []) 3)
    × (marked_events (pos 64) ≡ Done (Enter name_p 1 0 (singles 1) ∷ Marked 3 1 64 ∷ []) 3)
    × (marked_events (pos 65) ≡ Done (Enter name_p 1 0 (singles 1) ∷ Marked 3 1 64 ∷ []) 3)
