-- Programs and what is emitted for them by the marks that spare what they can, statement by statement. (docs/EMITTED.md)
use Rattle.std.specs.Prelude.{ℕ, ℤ, pos, List, [], ◌∷◌, ◌++◌, map, ◌==◌, ◌||◌, not, Bool, true, false, None, codes, Option, Some}
use Rattle.adj_tree.specs.Code.{plain, shadow, helper, plus, minus, times, greater, Term, lit, neg, elem, bin, power_of, none, more, is_less, is_same, is_greater, compare, unmarked, Act, assign, choose, loop, during, call, runtime, push_control, pop_control, zero_array, Code, stop, step, given, Declaration, Procedure}
use Rattle.def_meaning.specs.Numbers.{words}
use Rattle.def_meaning.specs.Scene.{Outcome, Done, Trapped, More, Full}
use Rattle.def_meaning.specs.Store.{scalar}
use Rattle.def_meaning.specs.Written.{find_unit}
use Rattle.def_meaning.specs.Units.{Slot, Output, run_unit}
use Rattle.def_sweep.specs.Tangents.{cells_of}
use Rattle.law_sweep.specs.AdjointExamples.{use_of, declare, set_to, grow, multiply, push, pop, zero_of}
use Rattle.def_meaning.specs.Apart.{has_name}
use Rattle.def_names.specs.Numbers.{Vars}
use Rattle.def_sweep.specs.Marking.{ProgramMarks, full_marks}

-- ---- how they are written

abbrev A : List ℕ
A = codes "A"

abbrev AB : List ℕ
AB = codes "AB"

abbrev C : List ℕ
C = codes "C"

abbrev I : List ℕ
I = codes "I"

abbrev N : List ℕ
N = codes "N"

abbrev R : List ℕ
R = codes "R"

abbrev RB : List ℕ
RB = codes "RB"

abbrev S : List ℕ
S = codes "S"

abbrev SB : List ℕ
SB = codes "SB"

abbrev X : List ℕ
X = codes "X"

abbrev XB : List ℕ
XB = codes "XB"

abbrev Y : List ℕ
Y = codes "Y"

abbrev YB : List ℕ
YB = codes "YB"

abbrev work_1 : List ℕ
work_1 = codes "ADW1"

abbrev work_2 : List ℕ
work_2 = codes "ADW2"

-- the helpers of a DO
abbrev count_1 : List ℕ
count_1 = codes "ADL1"

abbrev first_1 : List ℕ
first_1 = codes "ADM1"

abbrev stride_1 : List ℕ
stride_1 = codes "ADI1"

abbrev turn_1 : List ℕ
turn_1 = codes "ADJ1"

abbrev number : ℕ → Term
number n = lit (pos n)

-- t = t + 1
abbrev raise : List ℕ → Act
raise t = set_to t (bin plus (use_of t) (number 1))

-- the element at I
abbrev at_I : List ℕ → Term
at_I x = elem (plain x) (more (use_of I) none)

-- statements at one line
abbrev all_at : ℕ → List Act → Code → Code
all_at line [] rest = rest
all_at line (a ∷ acts) rest = step line a (all_at line acts rest)

abbrev one_at : ℕ → Act → Code
one_at line a = step line a stop

-- the turns from the last to the first
abbrev backward_turns : Code → Act
backward_turns body = loop (plain turn_1) (bin minus (use_of count_1) (number 1)) (number 0) (neg (number 1)) body unmarked

abbrev array : ℕ → List ℕ → Declaration
array line x = record { line = line; name = x; extents = given N ∷ [] }

-- a unit with its line, name, dummies, declarations and body
abbrev unit : ℕ → List ℕ → List (List ℕ) → List Declaration → Code → Procedure
unit line name dummies declarations body = record { line = line; name = name; dummies = dummies; is_none = false; declarations = declarations; body = body }

-- declarations of scalars at one line
abbrev scalars : ℕ → List (List ℕ) → List Declaration
scalars line xs = map (declare line) xs

-- the variables of the text with these names
abbrev those : List (List ℕ) → Vars
those xs (plain x) = has_name x xs
those xs (shadow x) = false
those xs (helper r k) = false

-- marks by the numbers of the statements that are kept and adjointed, which save nothing, with shadows of these variables
abbrev sparing_by : (ℕ → Bool) → (ℕ → Bool) → List (List ℕ) → ProgramMarks
sparing_by kept adjointed shadows = record full_marks {
  kept = kept;
  adjointed = adjointed;
  saved = λ i v. false;
  shadowed = λ name. those shadows;
}

-- the adjoint of a product of x with itself, which goes to the shadow b of t
abbrev squared_back : ℕ → List ℕ → List ℕ → List ℕ → Code → Code
squared_back line tb x b rest =
    all_at line (set_to work_1 (use_of tb) ∷ zero_of tb ∷ multiply work_2 work_1 x ∷ grow b work_2 ∷ multiply work_2 work_1 x ∷ grow b work_2 ∷ []) rest

-- ---- the sum of an array by a loop whose variable is implicit

-- SUBROUTINE P(N,A,S), INTEGER*8 N,A(N),S, S=0, DO 10 I=1,N, S=S+A(I), 10 CONTINUE, END
abbrev pub array_sum : Procedure
array_sum =
    unit 1 (codes "P") (N ∷ A ∷ S ∷ []) (declare 2 N ∷ array 2 A ∷ declare 2 S ∷ [])
    (step 3 (zero_of S) (step 4 (loop (plain I) (number 1) (use_of N) (number 1) (one_at 5 (set_to S (bin plus (use_of S) (at_I A)))) unmarked) stop))

-- the loop is kept; it and its body are adjointed
abbrev pub sum_marks : ProgramMarks
sum_marks = sparing_by (λ i. i == 1) (λ i. not (i == 0)) (A ∷ S ∷ [])

abbrev pub sum_adjoint : Procedure
sum_adjoint =
    unit 1 (codes "P_B") (N ∷ A ∷ AB ∷ S ∷ SB ∷ [])
    (declare 2 N ∷ array 2 A ∷ array 2 AB ∷ declare 2 S ∷ declare 2 SB ∷ scalars 1 (I ∷ count_1 ∷ first_1 ∷ stride_1 ∷ turn_1 ∷ work_1 ∷ []))
    (all_at 4 (
    set_to first_1 (number 1) ∷ set_to stride_1 (number 1) ∷ zero_of count_1
    ∷ loop (plain I) (use_of first_1) (use_of N) (use_of stride_1) (one_at 4 (raise count_1)) unmarked
    ∷ push first_1 ∷ push stride_1 ∷ push count_1 ∷ [])
    (step 1 (runtime (zero_array (plain AB)))
    (all_at 4 (pop count_1 ∷ pop stride_1 ∷ pop first_1 ∷ backward_turns
    (step 4 (set_to I (bin plus (use_of first_1) (bin times (use_of turn_1) (use_of stride_1))))
    (all_at 5 (set_to work_1 (use_of SB) ∷ zero_of SB ∷ grow SB work_1 ∷ assign (plain AB) (more (use_of I) none) (bin plus (at_I AB) (use_of work_1)) ∷ []) stop)) ∷ [])
    (one_at 1 (zero_of SB)))))

-- ---- a branch that resets a shadow

-- SUBROUTINE P(X,C,Y), INTEGER*8 X,C,Y, Y=X*X, IF (C.GT.0) THEN, Y=1, Y=2, END IF, END
abbrev pub resetting : Procedure
resetting =
    unit 1 (codes "P") (X ∷ C ∷ Y ∷ []) (scalars 2 (X ∷ C ∷ Y ∷ []))
    (step 3 (multiply Y X X) (step 4 (choose (compare is_greater (use_of C) (number 0)) (step 5 (set_to Y (number 1)) (step 6 (set_to Y (number 2)) stop)) stop) stop))

-- the IF is kept; all but the last assignment are adjointed
abbrev pub resetting_marks : ProgramMarks
resetting_marks = sparing_by (λ i. i == 1) (λ i. not (i == 3)) (X ∷ Y ∷ [])

abbrev pub resetting_adjoint : Procedure
resetting_adjoint =
    unit 1 (codes "P_B") (X ∷ XB ∷ C ∷ Y ∷ YB ∷ []) (scalars 2 (X ∷ XB ∷ C ∷ Y ∷ YB ∷ []) ++ scalars 1 (codes "ADC" ∷ work_1 ∷ work_2 ∷ []))
    (step 4 (choose (compare is_greater (use_of C) (number 0)) (one_at 4 (runtime (push_control (number 1)))) (one_at 4 (runtime (push_control (number 0)))))
    (step 1 (zero_of XB)
    (step 4 (runtime (pop_control (plain (codes "ADC"))))
    (step 4 (choose (compare is_same (use_of (codes "ADC")) (number 1)) (one_at 5 (zero_of YB)) stop)
    (squared_back 3 YB X XB (one_at 1 (zero_of YB)))))))

-- ---- a checkpointed call

-- SUBROUTINE P(X,Y), INTEGER*8 X,Y, Y=X, CALL SQ(Y), Y=Y*X, END
abbrev pub calling : Procedure
calling =
    unit 1 (codes "P") (X ∷ Y ∷ []) (scalars 2 (X ∷ Y ∷ []))
    (step 3 (set_to Y (use_of X)) (step 4 (call (codes "SQ") (more (use_of Y) none)) (step 5 (multiply Y Y X) stop)))

-- SUBROUTINE SQ(A), INTEGER*8 A, A=A*A, END
abbrev pub squaring_itself : Procedure
squaring_itself = unit 7 (codes "SQ") (A ∷ []) (declare 8 A ∷ []) (one_at 9 (multiply A A A))

-- the first assignment and the call are kept
abbrev pub calling_marks : ProgramMarks
calling_marks = sparing_by (λ i. i == 0 || i == 1) (λ i. true) (A ∷ X ∷ Y ∷ [])

abbrev pub calling_adjoint : Procedure
calling_adjoint =
    unit 1 (codes "P_B") (X ∷ XB ∷ Y ∷ YB ∷ []) (scalars 2 (X ∷ XB ∷ Y ∷ YB ∷ []) ++ scalars 1 (work_1 ∷ work_2 ∷ []))
    (step 3 (set_to Y (use_of X))
    (step 4 (push Y)
    (step 4 (call (codes "SQ") (more (use_of Y) none))
    (step 1 (zero_of XB)
    (all_at 5 (set_to work_1 (use_of YB) ∷ zero_of YB ∷ multiply work_2 work_1 X ∷ grow YB work_2 ∷ multiply work_2 work_1 Y ∷ grow XB work_2 ∷ [])
    (step 4 (pop Y)
    (step 4 (call (codes "SQ_B") (more (use_of Y) (more (use_of YB) none)))
    (all_at 3 (set_to work_1 (use_of YB) ∷ zero_of YB ∷ grow XB work_1 ∷ [])
    (one_at 1 (zero_of YB))))))))))

abbrev pub squaring_adjoint : Procedure
squaring_adjoint = unit 7 (codes "SQ_B") (A ∷ AB ∷ []) (scalars 8 (A ∷ AB ∷ []) ++ scalars 7 (work_1 ∷ work_2 ∷ [])) (squared_back 9 AB A AB stop)

-- ---- a DO WHILE

-- SUBROUTINE P(N,X,R), INTEGER*8 N,X,R,I, R=1, I=0, DO WHILE (I.LT.N), R=R*X, I=I+1, END DO, END
abbrev pub repeating : Procedure
repeating =
    unit 1 (codes "P") (N ∷ X ∷ R ∷ []) (scalars 2 (N ∷ X ∷ R ∷ I ∷ []))
    (step 3 (set_to R (number 1)) (step 4 (zero_of I) (step 5 (during (compare is_less (use_of I) (use_of N)) (step 6 (multiply R R X) (step 7 (raise I) stop))) stop)))

-- all is kept; the loop and the product are adjointed, and the product saves R
abbrev pub repeating_marks : ProgramMarks
repeating_marks = record (sparing_by (λ i. true) (λ i. i == 2 || i == 3) (X ∷ R ∷ [])) { saved = λ i v. i == 3 }

abbrev pub repeating_adjoint : Procedure
repeating_adjoint =
    unit 1 (codes "P_B") (N ∷ X ∷ XB ∷ R ∷ RB ∷ []) (scalars 2 (N ∷ X ∷ XB ∷ R ∷ RB ∷ I ∷ []) ++ scalars 1 (count_1 ∷ turn_1 ∷ work_1 ∷ work_2 ∷ []))
    (step 3 (set_to R (number 1))
    (step 4 (zero_of I)
    (step 5 (zero_of count_1)
    (step 5 (during (compare is_less (use_of I) (use_of N)) (step 6 (push R) (step 6 (multiply R R X) (step 7 (raise I) (step 5 (raise count_1) stop)))))
    (step 5 (push count_1)
    (step 1 (zero_of XB)
    (step 5 (pop count_1)
    (step 5 (backward_turns (all_at 6 (pop R ∷ set_to work_1 (use_of RB) ∷ zero_of RB ∷ multiply work_2 work_1 X ∷ grow RB work_2 ∷ multiply work_2 work_1 R ∷ grow XB work_2 ∷ []) stop))
    (one_at 1 (zero_of RB))))))))))

-- ---- a power with a variable exponent

-- SUBROUTINE P(X,N,Y), INTEGER*8 X,N,Y, Y=X**N, END
abbrev pub powered : Procedure
powered = unit 1 (codes "P") (X ∷ N ∷ Y ∷ []) (scalars 2 (X ∷ N ∷ Y ∷ [])) (one_at 3 (set_to Y (power_of (use_of X) (use_of N))))

-- nothing is kept
abbrev pub powered_marks : ProgramMarks
powered_marks = sparing_by (λ i. false) (λ i. true) (X ∷ Y ∷ [])

abbrev pub powered_adjoint : Procedure
powered_adjoint =
    unit 1 (codes "P_B") (X ∷ XB ∷ N ∷ Y ∷ YB ∷ []) (scalars 2 (X ∷ XB ∷ N ∷ Y ∷ YB ∷ []) ++ scalars 1 (work_1 ∷ work_2 ∷ []))
    (step 1 (zero_of XB)
    (all_at 3 (
    set_to work_1 (use_of YB) ∷ zero_of YB
    ∷ set_to work_2 (bin times (bin times (use_of work_1) (use_of N)) (power_of (use_of X) (bin greater (bin minus (use_of N) (number 1)) (number 0))))
    ∷ grow XB work_2 ∷ [])
    (one_at 1 (zero_of YB))))

-- ---- their runs

-- a scalar, and an array of three words
abbrev pub word : ℤ → Slot ℤ
word z = record { shape = scalar; cells = z ∷ [] }

abbrev pub three_words : ℤ → ℤ → ℤ → Slot ℤ
three_words a b c = record { shape = record { rows = 3; cols = 0 }; cells = a ∷ b ∷ c ∷ [] }

abbrev pub held_after : Outcome (Output ℤ) → List (List ℤ)
held_after (Done output used) = cells_of output.slots
held_after (Trapped t line w) = []
held_after (More w) = []
held_after (Full w) = []

-- what the dummies of a unit hold where its run is done, from an empty tape and with at most k statements
abbrev pub words_after : List Procedure → Procedure → List (Slot ℤ) → ℕ → List (List ℤ)
words_after qs a input k = held_after (run_unit words qs a input [] None k)

-- of scalars
abbrev pub scalars_after : List Procedure → Procedure → List ℤ → ℕ → List (List ℤ)
scalars_after qs a zs k = words_after qs a (map word zs) k

-- of scalars, for the unit of a name
abbrev after_unit : Option Procedure → List Procedure → List ℤ → ℕ → List (List ℤ)
after_unit None qs zs k = []
after_unit (Some a) qs zs k = scalars_after qs a zs k

abbrev pub named_after : List Procedure → List ℕ → List ℤ → ℕ → List (List ℤ)
named_after qs name zs k = after_unit (find_unit qs name) qs zs k
