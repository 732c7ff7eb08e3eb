-- Texts with blocks, declarations and lines of all sorts, and the programs that they are.
use Rattle.std.specs.Prelude.{◌≡◌, ℕ, pos, true, false, List, [], ◌∷◌, ◌++◌, codes, None, Ok}
use Rattle.adj_tree.specs.Code.{plain, plus, greater, bin, none, Mark, unmarked, with_count, count_from, Act, assign, choose, loop, during, call, Code, stop, step, fixed, given, Declaration}
use Rattle.def_text.specs.Block.{is_open, innermost}
use Rattle.adj_tree.specs.declared.stmt.Mark.TheVariants.{Plain}
use Rattle.def_text.specs.Data.{data_of}
use Rattle.def_text.specs.Limits.{limits_of}
use Rattle.def_text.specs.Lined.{directive_before}
use Rattle.def_text.specs.Refused.{◌>>=◌}
use Rattle.def_text.specs.Splits.{split_lines}
use Rattle.def_text.specs.Stated.{keyword_len, statements_of, IsCovered}
use Rattle.def_text.specs.declared.stated.Kind.TheVariants.{Do, BlockIf, LogicalIf, Assign, Continue, Return, End, EndIf, EndDo, Else, ImplicitNone, ElseIf, DoWhile, Subroutine, Integer, Call, Common}
use Rattle.def_text.specs.declared.mode.Mode.TheVariants.{Source}
use Rattle.law_examples.specs.Texts.{text, return_code, use_of, literal, one, name_a, name_i, name_n, name_p, name_x, name_y, bare, above, Is}

-- an assignment to X on a line, and what stands behind it
abbrev pub sets : ℕ → ℕ → Code → Code
sets line n rest = step line (assign (plain name_x) none (literal n)) rest

-- the statements from line 2 on are the body of P
abbrev pub Body : List (List ℕ) → Code → Type 0
Body lines body = Is Source (codes "      SUBROUTINE P" ∷ lines ++ codes "      END" ∷ []) (bare [] body ∷ [])

abbrev pub to_ten : ℕ → List ℕ → Code → Mark → Act
to_ten first x body mark = loop (plain x) (literal first) (literal 10) (literal 1) body mark

-- ---- blocks

abbrev pub Branches : Type 0
Branches =
    Body (codes "      IF(X.GT.1)THEN" ∷ codes "      X=1" ∷ codes "      END IF" ∷ codes "      X=2" ∷ []) (step 2 (choose (above (use_of name_x) 1) (sets 3 1 stop) stop) (sets 5 2 stop))
    × Body (codes "      IF(X.GT.1)THEN" ∷ codes "      X=1" ∷ codes "      ELSE" ∷ codes "      X=2" ∷ codes "      X=3" ∷ codes "      ENDIF" ∷ []) (step 2 (choose (above (use_of name_x) 1) (sets 3 1 stop) (sets 5 2 (sets 6 3 stop))) stop)
    × Body (codes "      X=0" ∷ codes "      IF(X.GT.1)THEN" ∷ codes "      ELSE IF(X.GT.2)THEN" ∷ codes "      X=2" ∷ codes "      ELSEIF(X.GT.3)THEN" ∷ codes "      X=3" ∷ codes "      ELSE" ∷ codes "      X=4" ∷ codes "      END IF" ∷ codes "      X=5" ∷ [])
    (sets 2 0 (step 3 (choose (above (use_of name_x) 1) stop (step 4 (choose (above (use_of name_x) 2) (sets 5 2 stop) (step 6 (choose (above (use_of name_x) 3) (sets 7 3 stop) (sets 9 4 stop)) stop)) stop)) (sets 11 5 stop)))
    × Body (codes "      IF(X.GT.1)THEN" ∷ codes "      IF(X.GT.2)THEN" ∷ codes "      ELSE" ∷ codes "      X=1" ∷ codes "      END IF" ∷ codes "      ELSE" ∷ codes "      X=2" ∷ codes "      END IF" ∷ [])
    (step 2 (choose (above (use_of name_x) 1) (step 3 (choose (above (use_of name_x) 2) stop (sets 5 1 stop)) stop) (sets 8 2 stop)) stop)
    × Body (codes "      IF(X.GT.1)THEN" ∷ codes "      DO I=1,10" ∷ codes "      X=1" ∷ codes "      END DO" ∷ codes "      ELSE" ∷ codes "      X=2" ∷ codes "      END IF" ∷ [])
    (step 2 (choose (above (use_of name_x) 1) (step 3 (to_ten 1 name_i (sets 4 1 stop) unmarked) stop) (sets 7 2 stop)) stop)

abbrev pub LoopBlocks : Type 0
LoopBlocks =
    Body (codes "      DO I=1,10" ∷ codes "      X=1" ∷ codes "      END DO" ∷ codes "      X=2" ∷ []) (step 2 (to_ten 1 name_i (sets 3 1 stop) unmarked) (sets 5 2 stop))
    × Body (codes "      DO WHILE(X.GT.1)" ∷ codes "      X=1" ∷ codes "      ENDDO" ∷ codes "      X=2" ∷ []) (step 2 (during (above (use_of name_x) 1) (sets 3 1 stop)) (sets 5 2 stop))
    × Body (codes "      DO 10 I=1,10" ∷ codes "      DO 10 N=2,10" ∷ codes "      X=1" ∷ codes " 10   CONTINUE" ∷ codes "      X=2" ∷ [])
    (step 2 (to_ten 1 name_i (step 3 (to_ten 2 name_n (sets 4 1 stop) unmarked) stop) unmarked) (sets 6 2 stop))
    × Body (codes "      DO 10 I=1,10" ∷ codes "      DO 20 N=2,10" ∷ codes "      X=1" ∷ codes " 20   CONTINUE" ∷ codes "      X=2" ∷ codes " 10   CONTINUE" ∷ [])
    (step 2 (to_ten 1 name_i (step 3 (to_ten 2 name_n (sets 4 1 stop) unmarked) (sets 6 2 stop)) unmarked) stop)
    × Body (codes "      DO 10 I=1,10" ∷ codes "      IF(X.GT.1)THEN" ∷ codes "      X=1" ∷ codes "      END IF" ∷ codes " 10   CONTINUE" ∷ []) (step 2 (to_ten 1 name_i (step 3 (choose (above (use_of name_x) 1) (sets 4 1 stop) stop) stop) unmarked) stop)
    × Body (codes "      CONTINUE" ∷ codes " 5    CONTINUE" ∷ codes "      X=1" ∷ []) (sets 4 1 stop)

-- ---- directives

abbrev pub Marked : List ℕ → Mark → Type 0
Marked directive mark = Body (directive ∷ codes "      DO I=1,10" ∷ codes "      X=1" ∷ codes "      END DO" ∷ []) (step 3 (to_ten 1 name_i (sets 4 1 stop) mark) stop)

abbrev pub Directives : Type 0
Directives =
    Marked (codes "C$AD BINOMIAL-CKP 7") (with_count 7)
    × Marked (codes "c$ad  binomial-ckp  64  ") (with_count 64)
    × Marked (codes "C$AD BINOMIAL-CKP 01") (with_count 1)
    × Marked (codes "C$AD BINOMIAL-CKP N") (count_from (plain name_n))
    × Marked (codes "C$AD BINOMIAL-CKP n_1 ") (count_from (plain (codes "N_1")))
    × Body (codes "C$AD BINOMIAL-CKP 7" ∷ codes "* a comment" ∷ codes "      DO I=1,10" ∷ codes "      X=1" ∷ codes "      END DO" ∷ []) (step 4 (to_ten 1 name_i (sets 5 1 stop) (with_count 7)) stop)
    × Body (codes "C$AD BINOMIAL-CKP 7" ∷ codes "      DO 10 I=1,10" ∷ codes "      X=1" ∷ codes " 10   CONTINUE" ∷ []) (step 3 (to_ten 1 name_i (sets 4 1 stop) (with_count 7)) stop)

abbrev pub calls_q : ℕ → Code → Code
calls_q line rest = step line (call (codes "Q") none) rest

-- the statements from line 2 on are the body of P, and those on these lines are split
abbrev pub Splits : List (List ℕ) → Code → List ℕ → Type 0
Splits lines body found = Body lines body × ((statements_of (limits_of Source) (text (codes "      SUBROUTINE P" ∷ lines ++ codes "      END" ∷ [])) >>= λ ss. Ok (split_lines ss)) ≡ Ok found)

abbrev pub SplitCalls : Type 0
SplitCalls =
    Splits (codes "C$AD NOCHECKPOINT" ∷ codes "      CALL Q" ∷ []) (calls_q 3 stop) (3 ∷ [])
    × Splits (codes "c$aD  NoCheckpoint  " ∷ codes "* a comment" ∷ codes "      CALL Q" ∷ codes "      CALL Q" ∷ codes "C$AD NOCHECKPOINT" ∷ codes " 10   CALL" ∷ codes "     1Q" ∷ []) (calls_q 4 (calls_q 5 (calls_q 7 stop))) (4 ∷ 7 ∷ [])
    × Splits (codes "      CALL Q" ∷ codes "C$AD BINOMIAL-CKP 7" ∷ codes "      DO I=1,10" ∷ codes "      CALL Q" ∷ codes "      END DO" ∷ []) (calls_q 2 (step 4 (to_ten 1 name_i (calls_q 5 stop) (with_count 7)) stop)) []

-- ---- lines

-- comments, labels, continuation lines, small letters, blanks within a statement, and what stands behind column 72
abbrev pub Lines : Type 0
Lines =
    Body (codes "C comment" ∷ codes "c comment" ∷ codes "* comment" ∷ codes "   " ∷ [] ∷ codes "      X=1" ∷ []) (sets 7 1 stop)
    × Body (codes "  99  X = 1" ∷ codes "00100 x=2" ∷ codes "     0X=3" ∷ []) (sets 2 1 (sets 3 2 (sets 4 3 stop)))
    × Body (codes "      X=" ∷ codes "     11" ∷ codes "     +2" ∷ codes "      X=2" ∷ []) (sets 2 12 (sets 5 2 stop))
    × Body (codes "      X=" ∷ codes "C comment" ∷ codes "     *1" ∷ []) (sets 2 1 stop)
    × Body (codes "      X=1                                                               comment" ∷ []) (sets 2 1 stop)
    × Body (codes "      X=                                                               12" ∷ []) (sets 2 1 stop)
    × Body (codes "                                                                        X" ∷ codes "      X=1" ∷ []) (sets 3 1 stop)
    × Body ((codes "      X=1" ++ return_code ∷ []) ∷ codes "      X=2" ∷ []) (sets 2 1 (sets 3 2 stop))
    × Body ((return_code ∷ []) ∷ codes "      X=1" ∷ []) (sets 3 1 stop)
    × Body (codes "      x=a+z" ∷ []) (step 2 (assign (plain name_x) none (bin plus (use_of name_a) (use_of (codes "Z")))) stop)
    × Body (codes "      C O N T I N U E" ∷ codes "      x = 1 2" ∷ []) (sets 3 12 stop)

-- ---- units

abbrev pub declares : ℕ → List ℕ → Declaration
declares line x = record { line = line; name = x; extents = [] }

abbrev pub Declared : Type 0
Declared =
    Is Source (codes "      SUBROUTINE P(A,N)" ∷ codes "      IMPLICIT NONE" ∷ codes "      INTEGER*8 A(3,N),N" ∷ codes "      INTEGER X,Y(08)" ∷ codes "      X=1" ∷ codes "      RETURN" ∷ codes "      END" ∷ [])
    (record {
      line = 1;
      name = name_p;
      dummies = name_a ∷ name_n ∷ [];
      is_none = true;
      declarations = record { line = 3; name = name_a; extents = fixed (pos 3) ∷ given name_n ∷ [] } ∷ declares 3 name_n ∷ declares 4 name_x ∷ record { line = 4; name = name_y; extents = fixed (pos 8) ∷ [] } ∷ [];
      body = sets 5 1 stop;
    } ∷ [])
    × Is Source (codes "      SUBROUTINE P()" ∷ codes "      INTEGER*08X" ∷ codes "      END" ∷ codes "      SUBROUTINE N(X)" ∷ codes "      X=2" ∷ codes "      END" ∷ [])
    (record { line = 1; name = name_p; dummies = []; is_none = false; declarations = declares 2 name_x ∷ []; body = stop }
    ∷ record { line = 4; name = name_n; dummies = name_x ∷ []; is_none = false; declarations = []; body = sets 5 2 stop } ∷ [])
    × Is Source [] []
    × Is Source (codes "C no statement" ∷ []) []
    × Is Source (codes "      SUBROUTINE P" ∷ codes "      END" ∷ codes "$DATA  " ∷ codes "      ?" ∷ []) (bare [] stop ∷ [])
    × Is Source (codes "      SUBROUTINE P" ∷ codes "      END" ∷ (codes "$DATA" ++ return_code ∷ []) ∷ codes "1 2 3" ∷ []) (bare [] stop ∷ [])

-- texts that look like others: an assignment to DO10I or to IFX, and a name that a keyword begins
abbrev pub Likenesses : Type 0
Likenesses =
    Body (codes "      DO10I=1" ∷ codes "      DO 10 I = MAX(1,2)" ∷ codes "      IF(1)=2" ∷ codes "      END=3" ∷ codes "      CALLQ=4" ∷ codes "      INTEGERX=5" ∷ [])
    (step 2 (assign (plain (codes "DO10I")) none (literal 1)) (step 3 (assign (plain (codes "DO10I")) none (bin greater (literal 1) (literal 2)))
    (step 4 (assign (plain (codes "IF")) (one (literal 1)) (literal 2)) (step 5 (assign (plain (codes "END")) none (literal 3)) (step 6 (assign (plain (codes "CALLQ")) none (literal 4)) (step 7 (assign (plain (codes "INTEGERX")) none (literal 5)) stop))))))

-- where the data behind a text begin, and the number of its line `$DATA` or its last
abbrev pub DataPlaces : Type 0
DataPlaces =
    (data_of (text (codes "AB" ∷ codes "$DATA" ∷ codes "1 2" ∷ [])) ≡ (9, 2))
    × (data_of (text (codes "$DATA " ∷ codes "$DATA" ∷ [])) ≡ (7, 1))
    × (data_of (codes "AB\n$DATA") ≡ (8, 2))
    × (data_of (text (codes "AB" ∷ codes " $DATA" ∷ codes "$DATAX" ∷ codes "$data" ∷ [])) ≡ (23, 4))
    × (data_of (codes "AB\nC") ≡ (4, 2))
    × (data_of [] ≡ (0, 0))

-- the labels of open loops, the innermost first, 0 where one has none
abbrev pub Labels : Type 0
Labels =
    (is_open (10 ∷ 20 ∷ []) 10 ≡ true) × (is_open (10 ∷ 20 ∷ []) 20 ≡ true) × (is_open (10 ∷ 20 ∷ []) 30 ≡ false) × (is_open (10 ∷ 0 ∷ []) 0 ≡ false) × (is_open [] 10 ≡ false)
    × (innermost (10 ∷ 20 ∷ []) ≡ 10) × (innermost (0 ∷ 20 ∷ []) ≡ 0) × (innermost [] ≡ 0)

-- how long keywords are, which characters tokens cover, and what stands for a directive where there is none
abbrev pub Keywords : Type 0
Keywords =
    (keyword_len Do [] ≡ 2) × (keyword_len BlockIf [] ≡ 2) × (keyword_len LogicalIf [] ≡ 2) × (keyword_len Assign [] ≡ 0) × (keyword_len Continue [] ≡ 8) × (keyword_len Return [] ≡ 6) × (keyword_len End [] ≡ 3) × (keyword_len EndIf [] ≡ 5)
    × (keyword_len EndDo [] ≡ 5) × (keyword_len Else [] ≡ 4) × (keyword_len ImplicitNone [] ≡ 12) × (keyword_len ElseIf [] ≡ 6) × (keyword_len DoWhile [] ≡ 7) × (keyword_len Subroutine [] ≡ 10) × (keyword_len Call [] ≡ 4) × (keyword_len Common [] ≡ 6)
    × (keyword_len Integer (codes "INTEGERX") ≡ 7) × (keyword_len Integer (codes "INTEGER*8X") ≡ 9)
    × IsCovered (record { line = 1; label = 0; mark = Plain; split = false; mark_line = 0; kind = Else; text = codes "ELSE"; tokens = [] })
    × IsCovered (record { line = 1; label = 0; mark = Plain; split = false; mark_line = 0; kind = BlockIf; text = codes "IFTHEN"; tokens = [] })
    × (directive_before None ≡ record { advice = record { mark = Plain; split = false }; line = 0 })
