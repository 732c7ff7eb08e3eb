-- Printed: trees, and the canonical text of each.
use Rattle.std.specs.Prelude.{◌≡◌, pos, negsuc, true, false, [], ◌∷◌, ◌++◌, codes}
use Rattle.adj_tree.specs.Code.{plain, plus, minus, times, quot, modulo, greater, lesser, Term, neg, bin, elem, pow, power_of, abs, none, more, Test, is_less, is_most, is_same, is_other, is_greater, is_least, compare, negation, conjunction, disjunction, push_word, pop_word, push_array, pop_array, push_control, pop_control, zero_array, begin_reversal, count_actions, give_action, end_reversal, unmarked, with_count, count_from, assign, choose, loop, during, call, runtime, Code, stop, step, fixed, given, Procedure}
use Rattle.def_text.specs.Text.{term_text, test_text, text_of, statement}
use Rattle.def_text.specs.Written.{is_literal, is_intrinsic, IsVariable, IsIndexed, IsLiteral, AreSubscripts, IsWrittenTerm, IsWrittenMark}
use Rattle.law_examples.specs.Limits.{often}
use Rattle.law_examples.specs.Texts.{text, use_of, literal, one, two, name_a, name_i, name_n, name_p, name_x, name_y}

abbrev pub x : Term
x = use_of name_x

abbrev pub y : Term
y = use_of name_y

-- parentheses stand only where the text would read as another tree
abbrev pub Terms : Type 0
Terms =
    (term_text (bin plus (literal 1) (bin plus (literal 2) (literal 3))) ≡ codes "1+(2+3)") × (term_text (bin plus (bin plus (literal 1) (literal 2)) (literal 3)) ≡ codes "1+2+3")
    × (term_text (bin minus (literal 1) (bin minus x y)) ≡ codes "1-(X-Y)") × (term_text (bin minus (bin minus (literal 1) x) y) ≡ codes "1-X-Y") × (term_text (bin plus (literal 1) (bin times x y)) ≡ codes "1+X*Y") × (term_text (bin minus (literal 1) (bin times x y)) ≡ codes "1-X*Y") × (term_text (bin times (bin quot x y) (literal 2)) ≡ codes "X/Y*2")
    × (term_text (bin times (bin plus x y) (literal 3)) ≡ codes "(X+Y)*3") × (term_text (bin times (literal 1) (bin times x y)) ≡ codes "1*(X*Y)") × (term_text (bin quot (bin times (literal 1) x) y) ≡ codes "1*X/Y") × (term_text (bin quot (literal 1) (bin quot x y)) ≡ codes "1/(X/Y)") × (term_text (bin times x (pow y 2)) ≡ codes "X*Y**2") × (term_text (bin quot x (pow y 2)) ≡ codes "X/Y**2")
    × (term_text (neg (bin plus x y)) ≡ codes "-(X+Y)") × (term_text (neg (bin times x y)) ≡ codes "-X*Y") × (term_text (neg (neg x)) ≡ codes "-(-X)")
    × (term_text (bin plus (neg x) y) ≡ codes "-X+Y") × (term_text (bin plus x (neg y)) ≡ codes "X+(-Y)") × (term_text (bin minus x (neg y)) ≡ codes "X-(-Y)") × (term_text (bin times (neg x) y) ≡ codes "(-X)*Y") × (term_text (bin quot x (neg y)) ≡ codes "X/(-Y)")
    × (term_text (pow (neg x) 2) ≡ codes "(-X)**2") × (term_text (pow (pow x 2) 3) ≡ codes "(X**2)**3") × (term_text (pow (bin times x y) 63) ≡ codes "(X*Y)**63") × (term_text (power_of x (power_of y x)) ≡ codes "X**Y**X") × (term_text (power_of (power_of x y) x) ≡ codes "(X**Y)**X") × (term_text (power_of x (bin times y x)) ≡ codes "X**(Y*X)") × (term_text (power_of x (pow y 2)) ≡ codes "X**Y**2") × (term_text (power_of x (neg y)) ≡ codes "X**(-Y)")
    × (term_text (bin greater (bin plus x y) (neg x)) ≡ codes "MAX(X+Y,-X)") × (term_text (bin lesser (neg x) (literal 1)) ≡ codes "MIN(-X,1)") × (term_text (bin modulo x (bin minus y x)) ≡ codes "MOD(X,Y-X)") × (term_text (pow (bin modulo x y) 2) ≡ codes "MOD(X,Y)**2") × (term_text (abs (neg x)) ≡ codes "ABS(-X)")
    × (term_text (elem (plain name_a) (two (neg x) (bin plus y (literal 10)))) ≡ codes "A(-X,Y+10)") × (term_text (pow (elem (plain name_a) (one x)) 0) ≡ codes "A(X)**0")

abbrev pub less : Test
less = compare is_less x (literal 1)

abbrev pub Tests : Type 0
Tests =
    (test_text (compare is_less (neg x) (bin plus x y)) ≡ codes "-X.LT.X+Y") × (test_text (compare is_most x y) ≡ codes "X.LE.Y") × (test_text (compare is_same x y) ≡ codes "X.EQ.Y") × (test_text (compare is_other x y) ≡ codes "X.NE.Y") × (test_text (compare is_greater x y) ≡ codes "X.GT.Y") × (test_text (compare is_least x y) ≡ codes "X.GE.Y")
    × (test_text (negation less) ≡ codes ".NOT.X.LT.1") × (test_text (negation (negation less)) ≡ codes ".NOT.(.NOT.X.LT.1)") × (test_text (negation (conjunction less less)) ≡ codes ".NOT.(X.LT.1.AND.X.LT.1)")
    × (test_text (conjunction (negation less) less) ≡ codes ".NOT.X.LT.1.AND.X.LT.1") × (test_text (conjunction less (negation less)) ≡ codes "X.LT.1.AND..NOT.X.LT.1")
    × (test_text (conjunction (conjunction less less) less) ≡ codes "X.LT.1.AND.X.LT.1.AND.X.LT.1") × (test_text (conjunction less (conjunction less less)) ≡ codes "X.LT.1.AND.(X.LT.1.AND.X.LT.1)")
    × (test_text (conjunction (disjunction less less) less) ≡ codes "(X.LT.1.OR.X.LT.1).AND.X.LT.1") × (test_text (conjunction less (disjunction less less)) ≡ codes "X.LT.1.AND.(X.LT.1.OR.X.LT.1)")
    × (test_text (disjunction (conjunction less less) less) ≡ codes "X.LT.1.AND.X.LT.1.OR.X.LT.1") × (test_text (disjunction less (conjunction less less)) ≡ codes "X.LT.1.OR.X.LT.1.AND.X.LT.1")
    × (test_text (disjunction (disjunction less less) less) ≡ codes "X.LT.1.OR.X.LT.1.OR.X.LT.1") × (test_text (disjunction less (disjunction less less)) ≡ codes "X.LT.1.OR.(X.LT.1.OR.X.LT.1)")

-- statements on lines that follow one another don't show in a text
abbrev pub to_x : Term → Code → Code
to_x e rest = step 0 (assign (plain name_x) none e) rest

-- a unit with a statement of each kind
abbrev pub each : Procedure
each = record {
  line = 1;
  name = name_p;
  dummies = name_a ∷ name_n ∷ [];
  is_none = true;
  declarations = record { line = 1; name = name_a; extents = fixed (pos 12) ∷ given name_n ∷ [] } ∷ record { line = 1; name = name_n; extents = [] } ∷ [];
  body =
      step 0 (assign (plain name_a) (two (literal 1) x) y)
      (step 0 (choose less (to_x (literal 1) stop) (to_x (literal 2) (to_x (literal 3) stop)))
      (step 0 (choose less stop stop)
      (step 0 (loop (plain name_i) (literal 1) x (literal 1) (to_x y stop) unmarked)
      (step 0 (loop (plain name_i) (literal 1) x (neg (literal 1)) stop (with_count 5))
      (step 0 (loop (plain name_i) (literal 1) x (literal 2) stop (count_from (plain name_n)))
      (step 0 (during less (to_x x stop))
      (step 0 (call name_y none) (step 0 (call name_y (two (bin plus x y) (neg x)))
      (step 0 (runtime (push_word (plain name_a) (one x))) (step 0 (runtime (pop_word (plain name_x) none)) (step 0 (runtime (push_array (plain name_a))) (step 0 (runtime (pop_array (plain name_a)))
      (step 0 (runtime (push_control (neg x))) (step 0 (runtime (pop_control (plain name_x))) (step 0 (runtime (zero_array (plain name_a))) (step 0 (runtime (begin_reversal x (literal 2)))
      (step 0 (runtime (count_actions x (literal 2) (plain name_y))) (step 0 (runtime (give_action x (literal 2) (literal 3) (plain name_x) (plain name_y) (plain name_i))) (step 0 (runtime end_reversal) stop)))))))))))))))))));
}

abbrev pub short : Procedure
short = record { line = 1; name = name_y; dummies = []; is_none = false; declarations = []; body = to_x (bin plus (use_of (codes "A123456789B123456789C123456789")) (bin times (use_of (codes "A123456789B123456789C123456789")) (use_of (codes "A123456789")))) stop }

abbrev pub Programs : Type 0
Programs =
    (text_of (each ∷ short ∷ []) ≡ text (
    codes "      SUBROUTINE P(A,N)" ∷ codes "      IMPLICIT NONE" ∷ codes "      INTEGER*8 A(12,N)" ∷ codes "      INTEGER*8 N"
    ∷ codes "      A(1,X)=Y"
    ∷ codes "      IF (X.LT.1) THEN" ∷ codes "      X=1" ∷ codes "      ELSE" ∷ codes "      X=2" ∷ codes "      X=3" ∷ codes "      END IF"
    ∷ codes "      IF (X.LT.1) THEN" ∷ codes "      END IF"
    ∷ codes "      DO I=1,X" ∷ codes "      X=Y" ∷ codes "      END DO"
    ∷ codes "C$AD BINOMIAL-CKP 5" ∷ codes "      DO I=1,X,-1" ∷ codes "      END DO"
    ∷ codes "C$AD BINOMIAL-CKP N" ∷ codes "      DO I=1,X,2" ∷ codes "      END DO"
    ∷ codes "      DO WHILE (X.LT.1)" ∷ codes "      X=X" ∷ codes "      END DO"
    ∷ codes "      CALL Y" ∷ codes "      CALL Y(X+Y,-X)"
    ∷ codes "      CALL PUSHINTEGER8(A(X))" ∷ codes "      CALL POPINTEGER8(X)" ∷ codes "      CALL PUSHINTEGER8ARRAY(A)" ∷ codes "      CALL POPINTEGER8ARRAY(A)"
    ∷ codes "      CALL PUSHCONTROL1B(-X)" ∷ codes "      CALL POPCONTROL1B(X)" ∷ codes "      CALL ADZERO8(A)" ∷ codes "      CALL ADBEG(X,2)"
    ∷ codes "      CALL ADACTN(X,2,Y)" ∷ codes "      CALL ADACT(X,2,3,X,Y,I)" ∷ codes "      CALL ADEND"
    ∷ codes "      END"
    ∷ codes "      SUBROUTINE Y" ∷ codes "      X=A123456789B123456789C123456789+A123456789B123456789C123456789*A1" ∷ codes "     +23456789" ∷ codes "      END" ∷ []))
    × (text_of [] ≡ [])

-- literal expressions: literals, signs, sums, differences, products and powers; and the names of intrinsics
abbrev pub Literals : Type 0
Literals =
    (is_literal (literal 1) ≡ true) × (is_literal x ≡ false) × (is_literal (elem (plain name_a) (one (literal 1))) ≡ false) × (is_literal (neg (literal 1)) ≡ true) × (is_literal (neg x) ≡ false) × (is_literal (abs (literal 1)) ≡ false)
    × (is_literal (bin plus (literal 1) (literal 2)) ≡ true) × (is_literal (bin minus (literal 1) (literal 2)) ≡ true) × (is_literal (bin times (literal 1) (literal 2)) ≡ true) × (is_literal (bin quot (literal 1) (literal 2)) ≡ false) × (is_literal (bin modulo (literal 1) (literal 2)) ≡ false) × (is_literal (bin greater (literal 1) (literal 2)) ≡ false)
    × (is_literal (bin plus x (literal 2)) ≡ false) × (is_literal (bin plus (literal 1) x) ≡ false) × (is_literal (pow (literal 1) 2) ≡ true) × (is_literal (pow x 2) ≡ false) × (is_literal (power_of (literal 1) (literal 2)) ≡ true) × (is_literal (power_of x (literal 2)) ≡ false) × (is_literal (power_of (literal 1) x) ≡ false)
    × (is_intrinsic (codes "ABS") ≡ true) × (is_intrinsic (codes "IABS") ≡ true) × (is_intrinsic (codes "MAX0") ≡ true) × (is_intrinsic (codes "MOD") ≡ true) × (is_intrinsic (codes "MODE") ≡ false) × (is_intrinsic name_x ≡ false)

-- the greatest literal and the greatest count of a directive, and what is none
abbrev pub WrittenBounds : Type 0
WrittenBounds =
    IsLiteral (pos 9223372036854775807) × (IsLiteral (pos 9223372036854775808) → ⊥) × (IsLiteral (negsuc 0) → ⊥)
    × IsWrittenMark (with_count 64) × (IsWrittenMark (with_count 65) → ⊥) × IsWrittenMark (with_count 1) × (IsWrittenMark (with_count 0) → ⊥)

-- names, elements and powers that can be written, and what can't
abbrev pub WrittenTerms : Type 0
WrittenTerms =
    IsVariable (plain name_x) × IsIndexed (plain name_x) × (IsIndexed (plain (codes "MAX")) → ⊥)
    × AreSubscripts (one x) × AreSubscripts (two x x) × (AreSubscripts (more x (two x x)) → ⊥) × (AreSubscripts none → ⊥)
    × IsWrittenTerm (pow x 63) × (IsWrittenTerm (pow x 64) → ⊥)

-- a statement of 140 characters stands on three lines
abbrev pub CutLines : Type 0
CutLines = statement (often 140 (codes "A")) ≡ codes "      " ++ often 66 (codes "A") ++ codes "\n     +" ++ often 66 (codes "A") ++ codes "\n     +" ++ often 8 (codes "A") ++ codes "\n"
