-- Programs whose marked loop is reversed by a schedule, what is emitted for them, and forms of that which aren't what marks say.
use Rattle.std.specs.Prelude.{ℕ, pos, nat_lt, ◌==◌, List, [], ◌∷◌, ◌++◌, map, Bool, true, false, codes}
use Rattle.adj_tree.specs.Code.{Var, plain, name_eq, Term, lit, var, bin, plus, minus, times, greater, lesser, none, more, is_same, compare, Mark, unmarked, with_count, count_from, Act, assign, choose, loop, call, runtime, pop_word, zero_array, begin_reversal, count_actions, give_action, end_reversal, Code, stop, step, Procedure}
use Rattle.def_sweep.specs.Marking.{ProgramMarks, full_marks}
use Rattle.law_shape.specs.Worked.{X, XB, squared, pushes, declared_at, all_at, squared_back}

abbrev Q : List ℕ
Q = codes "Q"

-- the helpers of the loop
abbrev first_value : List ℕ
first_value = codes "ADM1"

abbrev by : List ℕ
by = codes "ADI1"

abbrev steps : List ℕ
steps = codes "ADL1"

abbrev number : List ℕ
number = codes "ADK1"

abbrev action : List ℕ
action = codes "ADA1"

abbrev pub snapshots : List ℕ
snapshots = codes "ADS1"

abbrev of : List ℕ → Term
of x = var (plain x)

abbrev literal : ℕ → Term
literal n = lit (pos n)

abbrev sets : List ℕ → Term → Act
sets x e = assign (plain x) none e

abbrev pops : List ℕ → Act
pops x = runtime (pop_word (plain x) none)

-- CALL Q(X)
abbrev turn : Act
turn = call Q (more (of X) none)

-- CALL Q_B(X,XB)
abbrev turn_back : Act
turn_back = call (codes "Q_B") (more (of X) (more (of XB) none))

-- SUBROUTINE P(N,X), INTEGER*8 N, INTEGER*8 X, with a directive DO I=1,N, CALL Q(X), END DO, END
abbrev pub directed : Mark → Procedure
directed mark = record {
  line = 1;
  name = codes "P";
  dummies = codes "N" ∷ X ∷ [];
  is_none = false;
  declarations = declared_at 2 (codes "N") ∷ declared_at 3 X ∷ [];
  body = step 5 (loop (plain (codes "I")) (literal 1) (of (codes "N")) (literal 1) (step 6 turn stop) mark) stop;
}

-- with two snapshots
abbrev pub turning : Procedure
turning = directed (with_count 2)

-- with N snapshots
abbrev pub numbered : Procedure
numbered = directed (count_from (plain (codes "N")))

-- SUBROUTINE Q(X), INTEGER*8 X, X=X*X, END
abbrev pub squaring : Procedure
squaring = record { line = 9; name = Q; dummies = X ∷ []; is_none = false; declarations = declared_at 10 X ∷ []; body = step 11 squared stop }

-- of the dummies X is independent and dependent
abbrev pub only_second : List Bool
only_second = false ∷ true ∷ []

abbrev pub directed_program : Mark → List Procedure
directed_program mark = directed mark ∷ squaring ∷ []

abbrev pub turning_program : List Procedure
turning_program = directed_program (with_count 2)

abbrev pub numbered_program : List Procedure
numbered_program = directed_program (count_from (plain (codes "N")))

abbrev only_x : Var → Bool
only_x (plain x) = name_eq x X
only_x x = false

-- the loop and its call are kept, X alone has a shadow, and nothing is saved
abbrev pub reversing : ProgramMarks
reversing = record full_marks { kept = λ i. nat_lt i 2; saved = λ i x. false; shadowed = λ name. only_x }

-- the same with the call dropped
abbrev pub dropping : ProgramMarks
dropping = record reversing { kept = λ i. i == 0 }

-- ---- the adjoint of P, by what the turns of its loop do and what is done in the actions of the reversal

abbrev one : Act → Code
one a = step 5 a stop

-- what is done in the actions of a number
abbrev acting : ℕ → Code → Act
acting k c = choose (compare is_same (of action) (literal k)) c stop

-- the variable at the turn whose number a helper holds
abbrev at_turn : List ℕ → Act
at_turn x = sets (codes "I") (bin plus (of first_value) (bin times (of x) (of by)))

abbrev advance : Code → Act
advance c = loop (plain (codes "ADJ1")) (of (codes "ADF1")) (bin minus (of (codes "ADT1")) (literal 1)) (literal 1) (step 5 (at_turn (codes "ADJ1")) c) unmarked

abbrev actions : Term → Code → Code → Code → Code
actions many keep steps_on turn_it =
    all_at 5
    (runtime (give_action (of steps) many (of number) (plain action) (plain (codes "ADF1")) (plain (codes "ADT1")))
    ∷ acting 1 keep ∷ acting 2 (one (advance steps_on)) ∷ acting 3 (step 5 (at_turn (codes "ADF1")) turn_it) ∷ acting 4 (all_at 5 (pops X ∷ pushes X ∷ []) stop) ∷ acting 5 (one (pops X)) ∷ [])
    stop

-- with what sets and pushes the number of snapshots
abbrev forth : List Act → List Act → Code → List Act
forth setting pushing turns =
    sets first_value (literal 1) ∷ sets by (literal 1)
    ∷ (setting ++ (sets steps (literal 0) ∷ pushes X
    ∷ loop (plain (codes "I")) (of first_value) (of (codes "N")) (of by) turns unmarked
    ∷ pushes first_value ∷ pushes by ∷ (pushing ++ (pushes steps ∷ []))))

-- with what pops it, and it
abbrev back : List Act → Term → Code → Code → Code → List Act
back popped many keep steps_on turn_it =
    pops steps
    ∷ (popped ++ (pops by ∷ pops first_value ∷ pops X
    ∷ runtime (begin_reversal (of steps) many) ∷ runtime (count_actions (of steps) many (plain (codes "ADN1")))
    ∷ loop (plain number) (literal 1) (of (codes "ADN1")) (literal 1) (actions many keep steps_on turn_it) unmarked
    ∷ runtime end_reversal ∷ []))

abbrev pub turning_forth : Code → Code → Code
turning_forth turns rest = all_at 5 (forth [] [] turns) rest

abbrev pub turning_back : Code → Code → Code → Code
turning_back keep steps_on turn_it = all_at 5 (back [] (literal 2) keep steps_on turn_it) stop

-- N, but from 1 to 64
abbrev pub numbered_forth : Code → Code → Code
numbered_forth turns rest = all_at 5 (forth (sets snapshots (bin lesser (bin greater (of (codes "N")) (literal 1)) (literal 64)) ∷ []) (pushes snapshots ∷ []) turns) rest

-- by the number that a variable has
abbrev pub numbered_back : List ℕ → Code
numbered_back many = all_at 5 (back (pops snapshots ∷ []) (of many) (one (pushes X)) (one turn) (one turn_back)) stop

abbrev counting : Act
counting = sets steps (bin plus (of steps) (literal 1))

-- a turn, and a step of the schedule
abbrev pub turned : Code
turned = all_at 5 (turn ∷ counting ∷ []) stop

-- a turn without its call
abbrev pub uncalled : Code
uncalled = one counting

abbrev pub keeps : Code
keeps = one (pushes X)

abbrev pub steps_once : Code
steps_once = one turn

abbrev pub turns_once : Code
turns_once = one turn_back

-- an adjoint unit of P with helpers behind the others and a body
abbrev unit_of : List (List ℕ) → Code → Procedure
unit_of helpers body = record {
  line = 1;
  name = codes "P_B";
  dummies = codes "N" ∷ X ∷ XB ∷ [];
  is_none = false;
  declarations =
      declared_at 2 (codes "N") ∷ declared_at 3 X ∷ declared_at 3 XB ∷ declared_at 1 (codes "I") ∷ declared_at 1 steps ∷ declared_at 1 first_value ∷ declared_at 1 by ∷ declared_at 1 (codes "ADJ1")
      ∷ declared_at 1 number ∷ declared_at 1 (codes "ADN1") ∷ declared_at 1 action ∷ declared_at 1 (codes "ADF1") ∷ declared_at 1 (codes "ADT1") ∷ map (declared_at 1) helpers;
  body = body;
}

abbrev pub unit_with : Code → Procedure
unit_with body = unit_of [] body

abbrev pub numbered_unit : Code → Procedure
numbered_unit body = unit_of (snapshots ∷ []) body

abbrev pub squaring_back : Procedure
squaring_back = record {
  line = 9;
  name = codes "Q_B";
  dummies = X ∷ XB ∷ [];
  is_none = false;
  declarations = declared_at 10 X ∷ declared_at 10 XB ∷ declared_at 9 (codes "ADW1") ∷ declared_at 9 (codes "ADW2") ∷ [];
  body = all_at 11 squared_back stop;
}

abbrev pub program_with : Code → List Procedure
program_with body = unit_with body ∷ squaring ∷ squaring_back ∷ []

-- ---- what is emitted, and what isn't

abbrev pub reversed : List Procedure
reversed = program_with (turning_forth turned (turning_back keeps steps_once turns_once))

abbrev numbered_with : Code → List Procedure
numbered_with body = numbered_unit body ∷ squaring ∷ squaring_back ∷ []

-- where N says how many snapshots there are
abbrev pub numbered_reversed : List Procedure
numbered_reversed = numbered_with (numbered_forth turned (numbered_back snapshots))

-- N itself as their number
abbrev pub counting_itself : List Procedure
counting_itself = numbered_with (numbered_forth turned (numbered_back (codes "N")))

-- a push where steps are made
abbrev pub pushing_in_steps : List Procedure
pushing_in_steps = program_with (turning_forth turned (turning_back keeps (all_at 5 (pushes X ∷ turn ∷ []) stop) turns_once))

-- a snapshot that is pushed twice
abbrev pub taking_twice : List Procedure
taking_twice = program_with (turning_forth turned (turning_back (all_at 5 (pushes X ∷ pushes X ∷ []) stop) steps_once turns_once))

-- the step unit called where a turn is taken back
abbrev pub stepping_back : List Procedure
stepping_back = program_with (turning_forth turned (turning_back keeps steps_once (all_at 5 (turn ∷ turn_back ∷ []) stop)))

-- a backward sweep that begins with an assignment to the variable of the DO, outside any loop
abbrev pub setting_outside : List Procedure
setting_outside = program_with (turning_forth turned (step 5 (sets (codes "I") (of (codes "N"))) (turning_back keeps steps_once turns_once)))

-- and one that begins by setting X to 0 as an array
abbrev pub zeroing_own : List Procedure
zeroing_own = program_with (turning_forth turned (step 5 (runtime (zero_array (plain X))) (turning_back keeps steps_once turns_once)))

-- the call dropped from the forward sweep
abbrev pub dropped : List Procedure
dropped = program_with (turning_forth uncalled (turning_back keeps steps_once turns_once))
