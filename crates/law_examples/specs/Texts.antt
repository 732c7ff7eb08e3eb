-- Texts, and the programs that they are.
use Rattle.std.specs.Prelude.{◌≡◌, ℕ, pos, false, List, [], ◌∷◌, ◌++◌, codes, Result, Ok}
use Rattle.adj_tree.specs.Code.{plain, plus, minus, times, quot, modulo, greater, lesser, Term, lit, var, elem, neg, bin, pow, power_of, abs, Terms, none, more, Test, is_less, is_most, is_same, is_other, is_greater, is_least, compare, negation, conjunction, disjunction, push_word, pop_word, push_array, pop_array, push_control, pop_control, zero_array, begin_reversal, count_actions, give_action, end_reversal, Mark, unmarked, Act, assign, choose, loop, call, runtime, Code, stop, step, Procedure}
use Rattle.adj_tree.specs.declared.fault.Refusal.{Refusal}
use Rattle.def_text.specs.Char.{line_feed}
use Rattle.def_text.specs.declared.mode.Mode.{Mode}
use Rattle.def_text.specs.declared.mode.Mode.TheVariants.{Source}
use Rattle.def_refused.specs.TextFaults.{program_of}

-- ---- how texts and programs are written here

-- the text that has these lines
abbrev pub text : List (List ℕ) → List ℕ
text [] = []
text (l ∷ ls) = l ++ line_feed ∷ text ls

-- the code of a carriage return
abbrev pub return_code : ℕ
return_code = 13

-- the program of that text in a mode, or its first fault
abbrev pub program_in : Mode → List (List ℕ) → Result (List Procedure) Refusal
program_in mode lines = program_of mode (text lines)

-- a name as an expression
abbrev pub use_of : List ℕ → Term
use_of x = var (plain x)

abbrev pub literal : ℕ → Term
literal n = lit (pos n)

abbrev pub one : Term → Terms
one a = more a none

abbrev pub two : Term → Term → Terms
two a b = more a (one b)

abbrev pub name_a : List ℕ
name_a = codes "A"

abbrev pub name_i : List ℕ
name_i = codes "I"

abbrev pub name_n : List ℕ
name_n = codes "N"

abbrev pub name_p : List ℕ
name_p = codes "P"

abbrev pub name_x : List ℕ
name_x = codes "X"

abbrev pub name_y : List ℕ
name_y = codes "Y"

-- a unit P with these dummies that declares nothing
abbrev pub bare : List (List ℕ) → Code → Procedure
bare dummies body = record { line = 1; name = name_p; dummies = dummies; is_none = false; declarations = []; body = body }

-- a text in a mode is this program
abbrev pub Is : Mode → List (List ℕ) → List Procedure → Type 0
Is mode lines ps = program_in mode lines ≡ Ok ps

-- the statement on line 2 of the unit P(X,Y) does this
abbrev pub Does : List ℕ → Act → Type 0
Does line a = Is Source (codes "      SUBROUTINE P(X,Y)" ∷ line ∷ codes "      END" ∷ []) (bare (name_x ∷ name_y ∷ []) (step 2 a stop) ∷ [])

-- the expression on the right side of the statement is this
abbrev pub Means : List ℕ → Term → Type 0
Means right e = Does (codes "      X=" ++ right) (assign (plain name_x) none e)

-- the condition of the statement is this
abbrev pub Tests : List ℕ → Test → Type 0
Tests condition c = Does (codes "      IF(" ++ condition ++ codes ")X=1") (choose c (step 2 (assign (plain name_x) none (literal 1)) stop) stop)

-- ---- expressions

-- products before sums, equal ones from the left, powers before both and from the right, and a leading sign over the first term
abbrev pub Orders : Type 0
Orders =
    Means (codes "1+2*3") (bin plus (literal 1) (bin times (literal 2) (literal 3)))
    × Means (codes "1*2+3") (bin plus (bin times (literal 1) (literal 2)) (literal 3))
    × Means (codes "1-2-3") (bin minus (bin minus (literal 1) (literal 2)) (literal 3))
    × Means (codes "1/2*3") (bin times (bin quot (literal 1) (literal 2)) (literal 3))
    × Means (codes "1*2/3") (bin quot (bin times (literal 1) (literal 2)) (literal 3))
    × Means (codes "(1+2)*3") (bin times (bin plus (literal 1) (literal 2)) (literal 3))
    × Means (codes "1-(2-3)") (bin minus (literal 1) (bin minus (literal 2) (literal 3)))
    × Means (codes "-X+1") (bin plus (neg (use_of name_x)) (literal 1))
    × Means (codes "+X-1") (bin minus (use_of name_x) (literal 1))
    × Means (codes "-X*Y") (neg (bin times (use_of name_x) (use_of name_y)))
    × Means (codes "X*Y**2") (bin times (use_of name_x) (pow (use_of name_y) 2))
    × Means (codes "-X**2") (neg (pow (use_of name_x) 2))
    × Means (codes "X**Y**2") (power_of (use_of name_x) (pow (use_of name_y) 2))
    × Means (codes "(X**Y)**2") (pow (power_of (use_of name_x) (use_of name_y)) 2)
    × Means (codes "X*(-Y)") (bin times (use_of name_x) (neg (use_of name_y)))

-- exponents: literal ones are numbers, others are expressions
abbrev pub Exponents : Type 0
Exponents =
    Means (codes "X**0") (pow (use_of name_x) 0)
    × Means (codes "X**63") (pow (use_of name_x) 63)
    × Means (codes "X**(7-2*3)") (pow (use_of name_x) 1)
    × Means (codes "X**(-1+3)") (pow (use_of name_x) 2)
    × Means (codes "X**(0*(-9223372036854775807-1))") (pow (use_of name_x) 0)
    × Means (codes "X**(2**3)") (pow (use_of name_x) 8)
    × Means (codes "X**2**3") (pow (use_of name_x) 8)
    × Means (codes "X**(1**100)") (pow (use_of name_x) 1)
    × Means (codes "X**(-(-2))") (pow (use_of name_x) 2)
    × Means (codes "X**(4/2)") (power_of (use_of name_x) (bin quot (literal 4) (literal 2)))
    × Means (codes "X**(1+Y)") (power_of (use_of name_x) (bin plus (literal 1) (use_of name_y)))
    × Means (codes "X**(Y+1)") (power_of (use_of name_x) (bin plus (use_of name_y) (literal 1)))
    × Means (codes "X**Y") (power_of (use_of name_x) (use_of name_y))
    × Means (codes "X**(-Y)") (power_of (use_of name_x) (neg (use_of name_y)))
    × Means (codes "X**A(1)") (power_of (use_of name_x) (elem (plain name_a) (one (literal 1))))
    × Means (codes "X**(Y**2)") (power_of (use_of name_x) (pow (use_of name_y) 2))
    × Means (codes "X**(2**Y)") (power_of (use_of name_x) (power_of (literal 2) (use_of name_y)))
    × Means (codes "X**MAX(1,2)") (power_of (use_of name_x) (bin greater (literal 1) (literal 2)))

-- intrinsics and elements
abbrev pub Applications : Type 0
Applications =
    Means (codes "MAX(X,1)") (bin greater (use_of name_x) (literal 1))
    × Means (codes "MAX0(X,1)") (bin greater (use_of name_x) (literal 1))
    × Means (codes "MIN(X,1)") (bin lesser (use_of name_x) (literal 1))
    × Means (codes "MIN0(X,1)") (bin lesser (use_of name_x) (literal 1))
    × Means (codes "MOD(X,1)") (bin modulo (use_of name_x) (literal 1))
    × Means (codes "ABS(X-1)") (abs (bin minus (use_of name_x) (literal 1)))
    × Means (codes "IABS(X)") (abs (use_of name_x))
    × Means (codes "A(X)") (elem (plain name_a) (one (use_of name_x)))
    × Means (codes "A(X,Y+1)") (elem (plain name_a) (two (use_of name_x) (bin plus (use_of name_y) (literal 1))))
    × Means (codes "A((X),-1)") (elem (plain name_a) (two (use_of name_x) (neg (literal 1))))
    × Means (codes "A1_B") (use_of (codes "A1_B"))
    × Means (codes "9223372036854775807") (literal 9223372036854775807)
    × Means (codes "007") (literal 7)

-- ---- conditions

abbrev pub above : Term → ℕ → Test
above a n = compare is_greater a (literal n)

abbrev pub Conditions : Type 0
Conditions =
    Tests (codes "X.LT.1") (compare is_less (use_of name_x) (literal 1))
    × Tests (codes "X.LE.1") (compare is_most (use_of name_x) (literal 1))
    × Tests (codes "X.EQ.1") (compare is_same (use_of name_x) (literal 1))
    × Tests (codes "X.NE.1") (compare is_other (use_of name_x) (literal 1))
    × Tests (codes "X.GT.1") (compare is_greater (use_of name_x) (literal 1))
    × Tests (codes "X.GE.1") (compare is_least (use_of name_x) (literal 1))
    × Tests (codes "X.GT.1.AND.Y.GT.2.OR.X.GT.3") (disjunction (conjunction (above (use_of name_x) 1) (above (use_of name_y) 2)) (above (use_of name_x) 3))
    × Tests (codes "X.GT.1.OR.Y.GT.2.AND.X.GT.3") (disjunction (above (use_of name_x) 1) (conjunction (above (use_of name_y) 2) (above (use_of name_x) 3)))
    × Tests (codes "X.GT.1.AND.Y.GT.2.AND.X.GT.3") (conjunction (conjunction (above (use_of name_x) 1) (above (use_of name_y) 2)) (above (use_of name_x) 3))
    × Tests (codes "X.GT.1.OR.Y.GT.2.OR.X.GT.3") (disjunction (disjunction (above (use_of name_x) 1) (above (use_of name_y) 2)) (above (use_of name_x) 3))
    × Tests (codes "X.GT.1.AND.(Y.GT.2.OR.X.GT.3)") (conjunction (above (use_of name_x) 1) (disjunction (above (use_of name_y) 2) (above (use_of name_x) 3)))
    × Tests (codes ".NOT.X.GT.1.AND.Y.GT.2") (conjunction (negation (above (use_of name_x) 1)) (above (use_of name_y) 2))
    × Tests (codes ".NOT.(.NOT.(X+1)*2.GT.1)") (negation (negation (above (bin times (bin plus (use_of name_x) (literal 1)) (literal 2)) 1)))
    × Tests (codes "(X).GT.(1)") (above (use_of name_x) 1)
    × Tests (codes "((X.GT.1))") (above (use_of name_x) 1)
    × Tests (codes "A(X).GT.1.OR..NOT.Y.GT.2") (disjunction (above (elem (plain name_a) (one (use_of name_x))) 1) (negation (above (use_of name_y) 2)))

-- ---- simple statements

abbrev pub Calls : Type 0
Calls =
    Does (codes "      CALL Q") (call (codes "Q") none)
    × Does (codes "      CALL Q()") (call (codes "Q") none)
    × Does (codes "      CALL Q(X,Y+1,A(2))") (call (codes "Q") (more (use_of name_x) (two (bin plus (use_of name_y) (literal 1)) (elem (plain name_a) (one (literal 2))))))
    × Does (codes "      IF (X.GT.1) CALL Q(Y)") (choose (above (use_of name_x) 1) (step 2 (call (codes "Q") (one (use_of name_y))) stop) stop)
    × Does (codes "      IF (X.GT.1) A(Y)=2") (choose (above (use_of name_x) 1) (step 2 (assign (plain name_a) (one (use_of name_y)) (literal 2)) stop) stop)
    × Does (codes "      A(X,1)=2") (assign (plain name_a) (two (use_of name_x) (literal 1)) (literal 2))
    × Does (codes "      CALL PUSHINTEGER8(X)") (runtime (push_word (plain name_x) none))
    × Does (codes "      CALL PUSHINTEGER8(A(X,1))") (runtime (push_word (plain name_a) (two (use_of name_x) (literal 1))))
    × Does (codes "      CALL POPINTEGER8(X)") (runtime (pop_word (plain name_x) none))
    × Does (codes "      CALL POPINTEGER8(A(1))") (runtime (pop_word (plain name_a) (one (literal 1))))
    × Does (codes "      CALL PUSHINTEGER8ARRAY(A)") (runtime (push_array (plain name_a)))
    × Does (codes "      CALL POPINTEGER8ARRAY(A)") (runtime (pop_array (plain name_a)))
    × Does (codes "      CALL PUSHCONTROL1B(X+1)") (runtime (push_control (bin plus (use_of name_x) (literal 1))))
    × Does (codes "      CALL POPCONTROL1B(X)") (runtime (pop_control (plain name_x)))
    × Does (codes "      CALL ADZERO8(A)") (runtime (zero_array (plain name_a)))
    × Does (codes "      CALL ADBEG(X,1)") (runtime (begin_reversal (use_of name_x) (literal 1)))
    × Does (codes "      CALL ADACTN(X,1,Y)") (runtime (count_actions (use_of name_x) (literal 1) (plain name_y)))
    × Does (codes "      CALL ADACT(X,1,2,I,N,Y)") (runtime (give_action (use_of name_x) (literal 1) (literal 2) (plain name_i) (plain name_n) (plain name_y)))
    × Does (codes "      CALL ADEND") (runtime end_reversal)
    × Does (codes "      CALL ADEND()") (runtime end_reversal)

-- with other actuals the name is that of a unit
abbrev pub OtherActuals : Type 0
OtherActuals =
    Does (codes "      CALL PUSHINTEGER8(1)") (call (codes "PUSHINTEGER8") (one (literal 1)))
    × Does (codes "      CALL POPINTEGER8(X,Y)") (call (codes "POPINTEGER8") (two (use_of name_x) (use_of name_y)))
    × Does (codes "      CALL POPINTEGER8ARRAY(A(1))") (call (codes "POPINTEGER8ARRAY") (one (elem (plain name_a) (one (literal 1)))))
    × Does (codes "      CALL PUSHCONTROL1B") (call (codes "PUSHCONTROL1B") none)
    × Does (codes "      CALL ADZERO8(X,Y)") (call (codes "ADZERO8") (two (use_of name_x) (use_of name_y)))
    × Does (codes "      CALL ADBEG(X)") (call (codes "ADBEG") (one (use_of name_x)))
    × Does (codes "      CALL ADACTN(X,1,2)") (call (codes "ADACTN") (more (use_of name_x) (two (literal 1) (literal 2))))
    × Does (codes "      CALL ADACT(X,1,2,I,N,3)") (call (codes "ADACT") (more (use_of name_x) (more (literal 1) (more (literal 2) (more (use_of name_i) (two (use_of name_n) (literal 3)))))))
    × Does (codes "      CALL ADEND(X)") (call (codes "ADEND") (one (use_of name_x)))

-- ---- loops, by how they begin

-- the loop on lines 2 to 4 with X=1 in it
abbrev pub Loops : List (List ℕ) → Mark → Term → Term → Term → Type 0
Loops lines mark a b c =
    Is Source (codes "      SUBROUTINE P" ∷ lines ++ codes "      X=1" ∷ codes " 10   CONTINUE" ∷ codes "      END" ∷ [])
    (bare [] (step 2 (loop (plain name_i) a b c (step 3 (assign (plain name_x) none (literal 1)) stop) mark) stop) ∷ [])

abbrev pub LoopForms : Type 0
LoopForms =
    Loops (codes "      DO 10 I=1,N" ∷ []) unmarked (literal 1) (use_of name_n) (literal 1)
    × Loops (codes "      DO 10,I=1,N" ∷ []) unmarked (literal 1) (use_of name_n) (literal 1)
    × Loops (codes "      DO 010 I=N,1,-2" ∷ []) unmarked (use_of name_n) (literal 1) (neg (literal 2))
    × Loops (codes "      DO10I=MAX(1,2),A(1,2),N+1" ∷ []) unmarked (bin greater (literal 1) (literal 2)) (elem (plain name_a) (two (literal 1) (literal 2))) (bin plus (use_of name_n) (literal 1))
