-- Worked programs, and what their runs give.
use Rattle.std.specs.Prelude.{◌≡◌, ℕ, zero, suc, ℤ, pos, negsuc, List, [], ◌∷◌, map, false, Option, Some, None}
use Rattle.adj_tree.specs.Code.{plain, Term, lit, var, elem, neg, bin, pow, abs, Terms, none, more, plus, times, quot, modulo, greater, lesser, unmarked, with_count, Act, assign, loop, call, runtime, Runtime, push_word, pop_word, push_array, pop_array, pop_control, zero_array, begin_reversal, give_action, end_reversal, Code, stop, step, Declaration, Procedure, fixed, given}
use Rattle.def_meaning.specs.Trap.{division, index, step_trap, shape_trap, tape_trap, schedule_trap}
use Rattle.def_meaning.specs.Numbers.{words, duals}
use Rattle.def_meaning.specs.Store.{Shape, scalar}
use Rattle.def_meaning.specs.Log.{log_of}
use Rattle.def_meaning.specs.Event.{Enter, Begin, End, Marked}
use Rattle.def_meaning.specs.Scene.{Stand, Outcome, Done, Trapped, More, Full, then_do}
use Rattle.def_meaning.specs.Units.{Slot, Output, run_unit}

-- ---- how the programs are written

-- the names A, B, C, G, I, J, K, L, M, N, P, R, X, Y and Z, and those of SQ, XB, ADW1 and ADW2
abbrev pub letter : ℕ → List ℕ
letter c = c ∷ []

abbrev pub name_a : List ℕ
name_a = letter 65

abbrev pub name_b : List ℕ
name_b = letter 66

abbrev pub name_c : List ℕ
name_c = letter 67

abbrev pub name_g : List ℕ
name_g = letter 71

abbrev pub name_i : List ℕ
name_i = letter 73

abbrev pub name_j : List ℕ
name_j = letter 74

abbrev pub name_k : List ℕ
name_k = letter 75

abbrev pub name_l : List ℕ
name_l = letter 76

abbrev pub name_m : List ℕ
name_m = letter 77

abbrev pub name_n : List ℕ
name_n = letter 78

abbrev pub name_p : List ℕ
name_p = letter 80

abbrev pub name_r : List ℕ
name_r = letter 82

abbrev pub name_x : List ℕ
name_x = letter 88

abbrev pub name_y : List ℕ
name_y = letter 89

abbrev pub name_z : List ℕ
name_z = letter 90

abbrev pub name_sq : List ℕ
name_sq = 83 ∷ 81 ∷ []

abbrev pub name_xb : List ℕ
name_xb = 88 ∷ 66 ∷ []

abbrev pub name_adw1 : List ℕ
name_adw1 = 65 ∷ 68 ∷ 87 ∷ 49 ∷ []

abbrev pub name_adw2 : List ℕ
name_adw2 = 65 ∷ 68 ∷ 87 ∷ 50 ∷ []

-- a name as an expression, and a literal
abbrev pub of : List ℕ → Term
of x = var (plain x)

abbrev pub literal : ℕ → Term
literal m = lit (pos m)

-- one expression as subscripts or actuals
abbrev pub only : Term → Terms
only e = more e none

-- an assignment of a scalar
abbrev pub gets : List ℕ → Term → Act
gets x e = assign (plain x) none e

-- runtime calls on lines that follow one another
abbrev pub runtime_calls : ℕ → List Runtime → Code
runtime_calls line [] = stop
runtime_calls line (r ∷ rs) = step line (runtime r) (runtime_calls (suc line) rs)

-- a SUBROUTINE at a line; what it doesn't declare is a scalar
abbrev pub subroutine : ℕ → List ℕ → List (List ℕ) → List Declaration → Code → Procedure
subroutine line name dummies declarations body = record { line = line; name = name; dummies = dummies; is_none = false; declarations = declarations; body = body }

-- an array of so many elements, declared at a line
abbrev pub array : ℕ → List ℕ → ℕ → Declaration
array line name m = record { line = line; name = name; extents = fixed (pos m) ∷ [] }

-- ---- what is said of runs

abbrev pub one_cell : {C : Type 0} → C → Slot C
one_cell c = record { shape = scalar; cells = c ∷ [] }

-- the shape of an array of one dimension
abbrev pub vector : ℕ → Shape
vector m = record { rows = m; cols = 0 }

abbrev pub row_of : {C : Type 0} → ℕ → List C → Slot C
row_of m cs = record { shape = vector m; cells = cs }

-- the cells of the dummies, and the tape
abbrev pub Cells : Type 0 → Type 0
Cells C = List (List C) × List C

abbrev pub cells_of : {C : Type 0} → Outcome (Output C) → Outcome (Cells C)
cells_of o = then_do o (λ out used. Done (map (λ v. v.cells) out.slots, out.tape) used)

-- the run of the first of some units on words, with an empty tape and at most so many statements
abbrev pub runs : List Procedure → Procedure → List (Slot ℤ) → ℕ → Outcome (Cells ℤ)
runs others u input most = cells_of (run_unit words (u ∷ others) u input [] None most)

-- the same with words that carry tangents
abbrev pub dual_runs : List Procedure → Procedure → List (Slot (ℤ × ℤ)) → ℕ → Outcome (Cells (ℤ × ℤ))
dual_runs others u input most = cells_of (run_unit duals (u ∷ others) u input [] None most)

-- it is done with these words in the dummies, which are scalars, after so many statements
abbrev pub gives : {C : Type 0} → List C → ℕ → Outcome (Cells C)
gives cs used = Done (map (λ c. c ∷ []) cs, []) used

abbrev pub scalars : {C : Type 0} → List C → List (Slot C)
scalars cs = map one_cell cs

abbrev pub least_word : ℤ
least_word = negsuc 9223372036854775807

abbrev pub greatest_word : ℤ
greatest_word = pos 9223372036854775807

-- the shapes of some scalars
abbrev pub singles : ℕ → List Shape
singles zero = []
singles (suc m) = scalar ∷ singles m

-- what stands where nothing but the entry of P was told, with dummies of these shapes, and the tape is empty
abbrev pub at_first : List Shape → Stand
at_first shapes = record { tape = []; events = Enter name_p 1 0 shapes ∷ [] }

-- ---- Y=X*X

abbrev pub square : Procedure
square = subroutine 1 name_p (name_x ∷ name_y ∷ []) [] (step 3 (gets name_y (bin times (of name_x) (of name_x))) stop)

-- X=3 gives 9, and with the tangent 2 of X the tangent 12
abbrev pub SquareOfThree : Type 0
SquareOfThree =
    (runs [] square (scalars (pos 3 ∷ pos 0 ∷ [])) 100 ≡ gives (pos 3 ∷ pos 9 ∷ []) 1)
    × (dual_runs [] square (scalars ((pos 3, pos 2) ∷ (pos 0, pos 0) ∷ [])) 100 ≡ gives ((pos 3, pos 2) ∷ (pos 9, pos 12) ∷ []) 1)

-- the square of the least word is 0, and so is its tangent
abbrev pub SquareOfLeast : Type 0
SquareOfLeast = dual_runs [] square (scalars ((least_word, pos 1) ∷ (pos 0, pos 0) ∷ [])) 100 ≡ gives ((least_word, pos 1) ∷ (pos 0, pos 0) ∷ []) 1

-- ---- A(I)=A(I)+A(J)

abbrev pub element : List ℕ → Term → Term
element x e = elem (plain x) (only e)

abbrev pub sum_of_elements : Procedure
sum_of_elements =
    subroutine 1 name_p (name_i ∷ name_j ∷ name_a ∷ []) (array 2 name_a 2 ∷ [])
    (step 3 (assign (plain name_a) (only (of name_i)) (bin plus (element name_a (of name_i)) (element name_a (of name_j)))) stop)

-- I=J=1 and A=(3,4) give (6,4); the tangents (1,0) of A become (2,0)
abbrev pub SumOfOneElement : Type 0
SumOfOneElement =
    (runs [] sum_of_elements (one_cell (pos 1) ∷ one_cell (pos 1) ∷ row_of 2 (pos 3 ∷ pos 4 ∷ []) ∷ []) 100
    ≡ Done ((pos 1 ∷ []) ∷ (pos 1 ∷ []) ∷ (pos 6 ∷ pos 4 ∷ []) ∷ [], []) 1)
    × (dual_runs [] sum_of_elements (one_cell (pos 1, pos 0) ∷ one_cell (pos 1, pos 0) ∷ row_of 2 ((pos 3, pos 1) ∷ (pos 4, pos 0) ∷ []) ∷ []) 100
    ≡ Done (((pos 1, pos 0) ∷ []) ∷ ((pos 1, pos 0) ∷ []) ∷ ((pos 6, pos 2) ∷ (pos 4, pos 0) ∷ []) ∷ [], []) 1)

-- ---- R=1, DO I=1,N, R=R*X, END DO

abbrev pub powers : Procedure
powers =
    subroutine 1 name_p (name_n ∷ name_x ∷ name_r ∷ []) []
    (step 3 (gets name_r (literal 1))
    (step 4 (loop (plain name_i) (literal 1) (of name_n) (literal 1) (step 5 (gets name_r (bin times (of name_r) (of name_x))) stop) unmarked) stop))

-- N=5 and X=2 give 32, with the tangent 80 where that of X is 1; N=0 gives 1, with the tangent 0
abbrev pub PowersOfTwo : Type 0
PowersOfTwo =
    (dual_runs [] powers (scalars ((pos 5, pos 0) ∷ (pos 2, pos 1) ∷ (pos 0, pos 0) ∷ [])) 100 ≡ gives ((pos 5, pos 0) ∷ (pos 2, pos 1) ∷ (pos 32, pos 80) ∷ []) 12)
    × (dual_runs [] powers (scalars ((pos 0, pos 0) ∷ (pos 2, pos 1) ∷ (pos 0, pos 0) ∷ [])) 100 ≡ gives ((pos 0, pos 0) ∷ (pos 2, pos 1) ∷ (pos 1, pos 0) ∷ []) 2)

-- ---- K=0, DO I=L,M,M, K=K+1, END DO

abbrev pub long_steps : Procedure
long_steps =
    subroutine 1 name_p (name_l ∷ name_m ∷ name_k ∷ name_i ∷ []) []
    (step 3 (gets name_k (literal 0))
    (step 4 (loop (plain name_i) (of name_l) (of name_m) (of name_m) (step 5 (gets name_k (bin plus (of name_k) (literal 1))) stop) unmarked) stop))

abbrev pub long_steps_input : ℤ → List (Slot ℤ)
long_steps_input m = scalars (least_word ∷ m ∷ pos 5 ∷ pos 5 ∷ [])

-- from the least word in steps of the greatest there are three turns, the last step wraps, and eight statements are used;
-- with one fewer there is more to do, and with the step 0 the DO traps
abbrev pub LongSteps : Type 0
LongSteps =
    (runs [] long_steps (long_steps_input greatest_word) 8 ≡ gives (least_word ∷ greatest_word ∷ pos 3 ∷ negsuc 2 ∷ []) 8)
    × (runs [] long_steps (long_steps_input greatest_word) 7 ≡ More (at_first (singles 4)))
    × (runs [] long_steps (long_steps_input (pos 0)) 100 ≡ Trapped step_trap 4 (at_first (singles 4)))

-- ---- K=A/B, L=MOD(A,B), C(L+1)=-A**2

abbrev pub quotients : Procedure
quotients =
    subroutine 1 name_p (name_a ∷ name_b ∷ name_k ∷ name_l ∷ []) (array 2 name_c 3 ∷ [])
    (step 3 (gets name_k (bin quot (of name_a) (of name_b)))
    (step 4 (gets name_l (bin modulo (of name_a) (of name_b)))
    (step 5 (assign (plain name_c) (only (bin plus (of name_l) (literal 1))) (neg (pow (of name_a) 2))) stop)))

abbrev pub quotients_input : ℤ → ℤ → List (Slot ℤ)
quotients_input a b = scalars (a ∷ b ∷ pos 0 ∷ pos 0 ∷ [])

-- a quotient is cut towards 0, and what it leaves has the sign of A; the least word over -1 is the least word
abbrev pub QuotientsAndTraps : Type 0
QuotientsAndTraps =
    (runs [] quotients (quotients_input (pos 7) (negsuc 2)) 100 ≡ gives (pos 7 ∷ negsuc 2 ∷ negsuc 1 ∷ pos 1 ∷ []) 3)
    × (runs [] quotients (quotients_input least_word (negsuc 0)) 100 ≡ gives (least_word ∷ negsuc 0 ∷ least_word ∷ pos 0 ∷ []) 3)
    × (runs [] quotients (quotients_input (pos 7) (pos 0)) 100 ≡ Trapped division 3 (at_first (singles 4)))
    × (runs [] quotients (quotients_input (negsuc 6) (negsuc 2)) 100 ≡ Trapped index 5 (at_first (singles 4)))

-- ---- Y=X, CALL SQ(Y), Y=Y*X, where SQ(A) has A=A*A

abbrev pub squarer : Procedure
squarer = subroutine 7 name_sq (name_a ∷ []) [] (step 9 (gets name_a (bin times (of name_a) (of name_a))) stop)

abbrev pub cube : Procedure
cube =
    subroutine 1 name_p (name_x ∷ name_y ∷ []) []
    (step 3 (gets name_y (of name_x)) (step 4 (call name_sq (only (of name_y))) (step 5 (gets name_y (bin times (of name_y) (of name_x))) stop)))

-- X=2 gives 8, with the tangent 12 where that of X is 1
abbrev pub CubeByCall : Type 0
CubeByCall =
    (runs (squarer ∷ []) cube (scalars (pos 2 ∷ pos 0 ∷ [])) 100 ≡ gives (pos 2 ∷ pos 8 ∷ []) 4)
    × (dual_runs (squarer ∷ []) cube (scalars ((pos 2, pos 1) ∷ (pos 0, pos 0) ∷ [])) 100 ≡ gives ((pos 2, pos 1) ∷ (pos 8, pos 12) ∷ []) 4)

-- an element is handed back to its own cell, and a value to none
abbrev pub call_of_element : Procedure
call_of_element =
    subroutine 1 name_p (name_i ∷ name_a ∷ []) (array 2 name_a 2 ∷ [])
    (step 3 (call name_sq (only (element name_a (bin plus (of name_i) (literal 1))))) (step 4 (call name_sq (only (bin plus (of name_i) (literal 0)))) stop))

abbrev pub SquaredElement : Type 0
SquaredElement =
    runs (squarer ∷ []) call_of_element (one_cell (pos 1) ∷ row_of 2 (pos 3 ∷ pos 4 ∷ []) ∷ []) 100 ≡ Done ((pos 1 ∷ []) ∷ (pos 3 ∷ pos 16 ∷ []) ∷ [], []) 4

-- ---- CALL G(A), where A has two elements and G has a local array and writes its last

abbrev pub last_of : ℕ → Procedure
last_of m =
    subroutine 5 name_g (name_n ∷ name_a ∷ []) (record { line = 6; name = name_a; extents = given name_n ∷ [] } ∷ array 6 name_c m ∷ [])
    (step 7 (assign (plain name_a) (only (of name_n)) (element name_c (literal 1))) stop)

abbrev pub call_with_array : ℕ → Procedure
call_with_array m = subroutine 1 name_p (name_a ∷ []) (array 2 name_a 2 ∷ []) (step 3 (call name_g (more (literal m) (only (of name_a)))) stop)

-- the local is 0; where the extent of the dummy is 3, or below 1, it doesn't fit its actual, and the CALL traps
abbrev pub ArrayPassed : Type 0
ArrayPassed =
    (runs (last_of 1 ∷ []) (call_with_array 2) (row_of 2 (pos 8 ∷ pos 9 ∷ []) ∷ []) 100 ≡ Done ((pos 8 ∷ pos 0 ∷ []) ∷ [], []) 2)
    × (runs (last_of 1 ∷ []) (call_with_array 3) (row_of 2 (pos 8 ∷ pos 9 ∷ []) ∷ []) 100 ≡ Trapped shape_trap 3 (at_first (vector 2 ∷ [])))
    × (runs (last_of 1 ∷ []) (call_with_array 0) (row_of 2 (pos 8 ∷ pos 9 ∷ []) ∷ []) 100 ≡ Trapped shape_trap 3 (at_first (vector 2 ∷ [])))

-- the entries tell the shapes of the dummies, those that the unit was entered with
abbrev pub ShapesTold : Type 0
ShapesTold =
    then_do (run_unit words (call_with_array 2 ∷ last_of 1 ∷ []) (call_with_array 2) (row_of 2 (pos 8 ∷ pos 9 ∷ []) ∷ []) [] None 100) (λ out used. Done out.events used)
    ≡ Done (Enter name_p 1 0 (vector 2 ∷ []) ∷ Enter name_g 2 0 (scalar ∷ vector 2 ∷ []) ∷ []) 2

-- ---- the adjoint of X=X*X, X=X*X as it is written

abbrev pub adjoint_of_one_square : Code → Code
adjoint_of_one_square rest =
    step 10 (gets name_adw1 (of name_xb)) (step 11 (gets name_xb (literal 0))
    (step 12 (gets name_adw2 (bin times (of name_adw1) (of name_x))) (step 13 (gets name_xb (bin plus (of name_xb) (of name_adw2)))
    (step 14 (gets name_adw2 (bin times (of name_adw1) (of name_x))) (step 15 (gets name_xb (bin plus (of name_xb) (of name_adw2))) rest)))))

abbrev pub adjoint_of_squares : Procedure
adjoint_of_squares =
    subroutine 1 name_p (name_x ∷ name_xb ∷ []) []
    (step 6 (runtime (push_word (plain name_x) none)) (step 7 (gets name_x (bin times (of name_x) (of name_x)))
    (adjoint_of_one_square (step 8 (runtime (pop_word (plain name_x) none)) (adjoint_of_one_square stop)))))

abbrev pub adjoint_run : Option ℕ → ℕ → Outcome (Cells ℤ)
adjoint_run room most = cells_of (run_unit words (adjoint_of_squares ∷ []) adjoint_of_squares (scalars (pos 2 ∷ pos 1 ∷ [])) [] room most)

-- X=2 with the adjoint 1 gives the adjoint 32, uses fifteen statements and one word of tape
abbrev pub AdjointOfSquares : Type 0
AdjointOfSquares =
    (adjoint_run None 15 ≡ gives (pos 2 ∷ pos 32 ∷ []) 15)
    × (adjoint_run (Some 1) 15 ≡ gives (pos 2 ∷ pos 32 ∷ []) 15)
    × (adjoint_run (Some 0) 15 ≡ Full (at_first (singles 2)))
    × (adjoint_run None 14 ≡ More (at_first (singles 2)))

-- ---- runtime calls

abbrev pub with_call : List (List ℕ) → List Declaration → List Runtime → Procedure
with_call dummies declarations calls = subroutine 1 name_p dummies declarations (runtime_calls 2 calls)

-- a pop from an empty tape traps at its line, but a subscript that is out of range first
abbrev pub PopFromEmpty : Type 0
PopFromEmpty =
    (runs [] (with_call (name_k ∷ []) [] (pop_word (plain name_k) none ∷ [])) (scalars (pos 1 ∷ [])) 100 ≡ Trapped tape_trap 2 (at_first (singles 1)))
    × (runs [] (with_call (name_a ∷ []) (array 2 name_a 2 ∷ []) (pop_word (plain name_a) (only (literal 3)) ∷ [])) (row_of 2 (pos 1 ∷ pos 1 ∷ []) ∷ []) 100 ≡ Trapped index 2 (at_first (vector 2 ∷ [])))

abbrev pub saved_array : Procedure
saved_array = with_call (name_a ∷ []) (array 2 name_a 2 ∷ []) (push_array (plain name_a) ∷ zero_array (plain name_a) ∷ push_array (plain name_a) ∷ pop_word (plain name_a) (only (literal 1)) ∷ pop_control (plain name_k) ∷ pop_array (plain name_a) ∷ [])

-- an array that was pushed and set to 0 is as it was once it is popped; it needs room for each of its elements, and those that were pushed stand on a tape that is full
abbrev pub ArraySaved : Type 0
ArraySaved =
    (runs [] saved_array (row_of 2 (pos 3 ∷ pos 4 ∷ []) ∷ []) 100 ≡ Done ((pos 3 ∷ pos 4 ∷ []) ∷ [], []) 6)
    × (cells_of (run_unit words (saved_array ∷ []) saved_array (row_of 2 (pos 3 ∷ pos 4 ∷ []) ∷ []) [] (Some 3) 100) ≡ Full (record (at_first (vector 2 ∷ [])) { tape = pos 0 ∷ pos 4 ∷ pos 3 ∷ [] }))
    × (cells_of (run_unit words (saved_array ∷ []) saved_array (row_of 2 (pos 3 ∷ pos 4 ∷ []) ∷ []) [] (Some 4) 100) ≡ Done ((pos 3 ∷ pos 4 ∷ []) ∷ [], []) 6)

abbrev pub action : ℕ → Runtime
action k = give_action (literal 3) (literal 2) (literal k) (plain name_i) (plain name_j) (plain name_k)

-- the ninth and last action for three steps and two snapshots turns the step 0; there is no tenth
abbrev pub LastAction : Type 0
LastAction =
    (runs [] (with_call (name_i ∷ name_j ∷ name_k ∷ []) [] (action 9 ∷ [])) (scalars (pos 0 ∷ pos 0 ∷ pos 0 ∷ [])) 100 ≡ gives (pos 3 ∷ pos 0 ∷ pos 1 ∷ []) 1)
    × (runs [] (with_call (name_i ∷ name_j ∷ name_k ∷ []) [] (action 10 ∷ [])) (scalars (pos 0 ∷ pos 0 ∷ pos 0 ∷ [])) 100 ≡ Trapped schedule_trap 2 (at_first (singles 3)))

abbrev pub begins : Runtime
begins = begin_reversal (literal 3) (literal 2)

-- a reversal must have begun before it ends, and have ended before its unit does: else the head traps at its own line, and another unit at its CALL
abbrev pub OpenReversal : Type 0
OpenReversal =
    (runs [] (with_call [] [] (begins ∷ end_reversal ∷ [])) [] 100 ≡ gives [] 2)
    × (runs [] (with_call [] [] (begins ∷ end_reversal ∷ end_reversal ∷ [])) [] 100 ≡ Trapped schedule_trap 4 (record (at_first []) { events = Enter name_p 1 0 [] ∷ Begin 3 2 1 0 ∷ End 1 ∷ [] }))
    × (runs [] (with_call [] [] (begins ∷ [])) [] 100 ≡ Trapped schedule_trap 1 (record (at_first []) { events = Enter name_p 1 0 [] ∷ Begin 3 2 1 0 ∷ [] }))
    × (runs (with_call [] [] (begins ∷ []) ∷ []) (subroutine 8 name_g [] [] (step 9 (call name_p none) stop)) [] 100 ≡ Trapped schedule_trap 9 (record (at_first []) { events = Enter name_g 1 0 [] ∷ Enter name_p 2 0 [] ∷ Begin 3 2 2 0 ∷ [] }))

-- ---- events

abbrev pub pushes : Runtime
pushes = push_word (plain name_i) none

-- a marked loop of one turn at line 3, around a reversal of one step with two calls and pushes
abbrev pub eventful : Procedure
eventful =
    subroutine 1 name_p (name_a ∷ []) []
    (step 3 (loop (plain name_i) (literal 1) (literal 1) (literal 1)
    (step 4 (runtime pushes) (step 5 (runtime (begin_reversal (literal 1) (literal 2)))
    (step 6 (call name_sq (only (of name_a))) (step 7 (runtime pushes) (step 8 (call name_sq (only (of name_a)))
    (step 9 (runtime end_reversal) stop)))))) (with_count 5)) stop)

abbrev pub eventful_run : Outcome (Output ℤ)
eventful_run = run_unit words (eventful ∷ squarer ∷ []) eventful (scalars (pos 2 ∷ [])) [] None 100

-- what happened, in order of time; one reversal began, with one call more than its steps, the second of them a word above its start
abbrev pub EventsInOrder : Type 0
EventsInOrder =
    (then_do eventful_run (λ out used. Done out.events used) ≡ Done (Enter name_p 1 0 (singles 1) ∷ Begin 1 2 1 1 ∷ Enter name_sq 2 1 (singles 1) ∷ Enter name_sq 2 2 (singles 1) ∷ End 1 ∷ Marked 3 1 5 ∷ []) 10)
    × (then_do eventful_run (λ out used. Done (log_of out.events) used) ≡ Done (record { reversals = 1; advances = 1; height = 1 }) 10)

-- ---- tangents of MAX, MIN, ABS and quotients

abbrev pub of_two : Term → Procedure
of_two e = subroutine 1 name_p (name_x ∷ name_z ∷ name_y ∷ []) [] (step 3 (gets name_y e) stop)

-- Y is this expression of X and Z
abbrev pub GivesDual : Term → ℤ × ℤ → ℤ × ℤ → ℤ × ℤ → Type 0
GivesDual e x z y = dual_runs [] (of_two e) (scalars (x ∷ z ∷ (pos 0, pos 0) ∷ [])) 100 ≡ gives (x ∷ z ∷ y ∷ []) 1

-- where both arguments of MAX or MIN are equal the first is taken; ABS of 0 is its argument; a quotient has no tangent
abbrev pub ChosenTangents : Type 0
ChosenTangents =
    GivesDual (bin greater (of name_x) (of name_z)) (pos 4, pos 10) (pos 4, pos 20) (pos 4, pos 10)
    × GivesDual (bin greater (of name_x) (of name_z)) (pos 4, pos 10) (pos 5, pos 20) (pos 5, pos 20)
    × GivesDual (bin lesser (of name_x) (of name_z)) (pos 4, pos 10) (pos 4, pos 20) (pos 4, pos 10)
    × GivesDual (bin lesser (of name_x) (of name_z)) (pos 4, pos 10) (pos 3, pos 20) (pos 3, pos 20)
    × GivesDual (abs (of name_x)) (pos 0, pos 10) (pos 0, pos 0) (pos 0, pos 10)
    × GivesDual (abs (of name_x)) (negsuc 2, pos 10) (pos 0, pos 0) (pos 3, negsuc 9)
    × GivesDual (bin times (bin quot (of name_x) (literal 2)) (of name_x)) (pos 7, pos 5) (pos 0, pos 0) (pos 21, pos 15)
    × GivesDual (pow (of name_x) 3) (pos 2, pos 1) (pos 0, pos 0) (pos 8, pos 12)
    × GivesDual (pow (of name_x) 0) (pos 2, pos 1) (pos 0, pos 0) (pos 1, pos 0)
