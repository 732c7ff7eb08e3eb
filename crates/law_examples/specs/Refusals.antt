-- Texts that are refused, with their code and its line.
use Rattle.std.specs.Prelude.{◌≡◌, ℕ, List, [], ◌∷◌, ◌++◌, codes, Err}
use Rattle.def_text.specs.declared.mode.Mode.{Mode}
use Rattle.def_text.specs.declared.mode.Mode.TheVariants.{Source, Run}
use Rattle.law_examples.specs.Texts.{return_code, program_in}

-- the text of these lines is refused with a code at a line, or for a limit
abbrev pub Refused : Mode → List (List ℕ) → ℕ → ℕ → Type 0
Refused mode lines code line = program_in mode lines ≡ Err (record { code = code; line = line; number = 0 })

abbrev pub Limited : Mode → List (List ℕ) → ℕ → ℕ → Type 0
Limited mode lines limit line = program_in mode lines ≡ Err (record { code = 21; line = line; number = limit })

abbrev pub tab : ℕ
tab = 9

-- lines in the unit P, the first of them on line 2
abbrev pub within : List (List ℕ) → List (List ℕ)
within lines = codes "      SUBROUTINE P" ∷ lines ++ codes "      END" ∷ []

abbrev pub Wrong : List (List ℕ) → ℕ → ℕ → Type 0
Wrong lines code line = Refused Source (within lines) code line

-- ---- lines

-- labels and column 6 of initial lines, and a continuation of nothing
abbrev pub InitialLines : Type 0
InitialLines =
    Wrong (codes " A    X=1" ∷ []) 1 2
    × Wrong (codes " 0    X=1" ∷ []) 1 2
    × Wrong (codes " 1 2+ X=1" ∷ []) 1 2
    × Wrong (codes "    1+X=1" ∷ []) 1 2
    × Wrong ((tab ∷ codes "X=1") ∷ []) 1 2
    × Refused Source (codes "     +X=1" ∷ []) 1 1
    × Refused Source (codes "C comment" ∷ codes "     1X=1" ∷ codes "      ?" ∷ []) 1 2

-- characters that no statement has
abbrev pub Characters : Type 0
Characters =
    Wrong (codes "      X=?" ∷ []) 2 2
    × Wrong (codes "      X=1:" ∷ []) 2 2
    × Wrong (codes "      X=1;" ∷ []) 2 2
    × Wrong (codes "      X=1@" ∷ []) 2 2
    × Wrong (codes "      X=1[" ∷ []) 2 2
    × Wrong (codes "      X=`" ∷ []) 2 2
    × Wrong (codes "      X={" ∷ []) 2 2
    × Wrong (codes "      X='" ∷ []) 2 2
    × Wrong ((codes "      X" ++ tab ∷ codes "=1") ∷ []) 2 2
    × Wrong (codes "      X=1" ∷ (codes "     " ++ tab ∷ codes "+1") ∷ []) 2 3
    × Wrong (codes "      X=1" ∷ codes "     1?" ∷ []) 2 3
    × Wrong ((codes "      X=1" ++ return_code ∷ return_code ∷ []) ∷ []) 2 2

-- directives
abbrev pub WrongDirectives : Type 0
WrongDirectives =
    Wrong (codes "C$AD BINOMIAL-CKP 0" ∷ codes "      DO I=1,2" ∷ codes "      END DO" ∷ []) 20 2
    × Wrong (codes "C$AD BINOMIAL-CKP 65" ∷ codes "      DO I=1,2" ∷ codes "      END DO" ∷ []) 20 2
    × Wrong (codes "C$AD BINOMIAL-CKP 007" ∷ codes "      DO I=1,2" ∷ codes "      END DO" ∷ []) 20 2
    × Wrong (codes "C$AD BINOMIAL-CKP" ∷ codes "      DO I=1,2" ∷ codes "      END DO" ∷ []) 20 2
    × Wrong (codes "C$AD BINOMIAL-CKP 7 8" ∷ codes "      DO I=1,2" ∷ codes "      END DO" ∷ []) 20 2
    × Wrong (codes "C$AD BINOMIAL-CKP 7N" ∷ codes "      DO I=1,2" ∷ codes "      END DO" ∷ []) 20 2
    × Wrong (codes "C$AD BINOMIAL-CKP _N" ∷ codes "      DO I=1,2" ∷ codes "      END DO" ∷ []) 20 2
    × Wrong (codes "C$AD BINOMIAL-CKP N M" ∷ codes "      DO I=1,2" ∷ codes "      END DO" ∷ []) 20 2
    × Wrong (codes "C$AD BINOMIAL-CKP7" ∷ codes "      DO I=1,2" ∷ codes "      END DO" ∷ []) 20 2
    × Wrong (codes "C$ADBINOMIAL-CKP 7" ∷ codes "      DO I=1,2" ∷ codes "      END DO" ∷ []) 20 2
    × Wrong (codes "C$AD BINOMIAL 7" ∷ codes "      DO I=1,2" ∷ codes "      END DO" ∷ []) 20 2
    × Wrong (codes "C$AD BINOMIAL-CKP 7" ∷ codes "C$AD BINOMIAL-CKP 7" ∷ codes "      DO I=1,2" ∷ codes "      END DO" ∷ []) 20 2
    × Wrong (codes "      X=1" ∷ codes "C$AD BINOMIAL-CKP 7" ∷ codes "     1+1" ∷ []) 20 3
    × Wrong (codes "C comment" ∷ codes "C$AD BINOMIAL-CKP 7" ∷ codes "      X=1" ∷ []) 20 3
    × Wrong (codes "C$AD BINOMIAL-CKP 7" ∷ codes "      DO WHILE(X.GT.1)" ∷ codes "      END DO" ∷ []) 20 2
    × Refused Source (within [] ++ codes "C$AD BINOMIAL-CKP 7" ∷ []) 20 3
    × Refused Source (within [] ++ codes "C$AD BINOMIAL-CKP 7" ∷ codes "$DATA" ∷ []) 20 3
    × Wrong (codes "C$AD BINOMIAL-CKP 7" ∷ codes " A    DO I=1,2" ∷ []) 1 3

-- directives that split a call
abbrev pub WrongSplits : Type 0
WrongSplits =
    Wrong (codes "C$AD NOCHECKPOINT 2" ∷ codes "      CALL Q" ∷ []) 20 2
    × Wrong (codes "C$AD NOCHECKPOINTS" ∷ codes "      CALL Q" ∷ []) 20 2
    × Wrong (codes "C$AD NOCHECKPOIN" ∷ codes "      CALL Q" ∷ []) 20 2
    × Wrong (codes "C$AD NO CHECKPOINT" ∷ codes "      CALL Q" ∷ []) 20 2
    × Wrong (codes "C$ADNOCHECKPOINT" ∷ codes "      CALL Q" ∷ []) 20 2
    × Wrong ((codes "C$AD" ++ tab ∷ codes "NOCHECKPOINT") ∷ codes "      CALL Q" ∷ []) 20 2
    × Wrong (codes "C$AD NOCHECKPOINT" ∷ codes "C$AD NOCHECKPOINT" ∷ codes "      CALL Q" ∷ []) 20 2
    × Wrong (codes "      X=1" ∷ codes "C$AD NOCHECKPOINT" ∷ codes "     1+1" ∷ []) 20 3
    × Refused Source (within [] ++ codes "C$AD NOCHECKPOINT" ∷ []) 20 3
    × Wrong (codes "C$AD NOCHECKPOINT" ∷ codes "      X=1" ∷ []) 20 2
    × Wrong (codes "C$AD NOCHECKPOINT" ∷ codes "      CALLQ=1" ∷ []) 20 2
    × Wrong (codes "C$AD NOCHECKPOINT" ∷ codes "      IF(X.GT.1)CALL Q" ∷ []) 20 2
    × Wrong (codes "C$AD NOCHECKPOINT" ∷ codes "      DO I=1,2" ∷ codes "      END DO" ∷ []) 20 2
    × Wrong (codes "C$AD BINOMIAL-CKP 7" ∷ codes "      CALL Q" ∷ []) 20 2
    × Wrong (codes "C$AD NOCHECKPOINT" ∷ codes "      CALL Q(" ∷ []) 4 3
    × Wrong (codes "C$AD NOCHECKPOINT" ∷ codes "      CALL 1" ∷ []) 4 3

-- ---- statements

-- nothing known
abbrev pub Unknown : Type 0
Unknown =
    Wrong (codes "      STOP" ∷ []) 3 2
    × Wrong (codes "      CONTINUED" ∷ []) 3 2
    × Wrong (codes "      A(=1" ∷ []) 3 2
    × Wrong (codes "      INTEGER*4 X" ∷ []) 3 2
    × Wrong (codes "      INTEGER*80 X" ∷ []) 3 2
    × Wrong (codes "      IF(X.GT.1)STOP" ∷ []) 3 2
    × Wrong (codes "      IF(X.GT.1)" ∷ []) 3 2
    × Wrong (codes "      IF(X.GT.1)THENX" ∷ []) 3 2
    × Wrong (codes "      DO 10 WHILE(X.GT.1)" ∷ []) 3 2
    × Wrong (codes "      DO WHILE(" ∷ []) 3 2
    × Wrong (codes "      DO WHILE(X.GT.1" ∷ []) 3 2
    × Wrong (codes "      DO WHILE(X.GT.1)X" ∷ []) 3 2
    × Wrong (codes "      ELSE IF(X.GT.1)" ∷ []) 3 2
    × Wrong (codes "      end d o x" ∷ []) 3 2

-- a known statement that isn't of its form
abbrev pub Malformed : Type 0
Malformed =
    Wrong (codes "      A)=1" ∷ []) 4 2
    × Wrong (codes "      X=1)" ∷ []) 4 2
    × Wrong (codes "      X=(1" ∷ []) 4 2
    × Wrong (codes "      X=" ∷ []) 4 2
    × Wrong (codes "      X=1+" ∷ []) 4 2
    × Wrong (codes "      X=1*-2" ∷ []) 4 2
    × Wrong (codes "      X=1**-2" ∷ []) 4 2
    × Wrong (codes "      X=(+1)--2" ∷ []) 4 2
    × Wrong (codes "      X=1 2 A" ∷ []) 4 2
    × Wrong (codes "      X=A(1,2,3)" ∷ []) 4 2
    × Wrong (codes "      X=A()" ∷ []) 4 2
    × Wrong (codes "      X=ABS(1,2)" ∷ []) 4 2
    × Wrong (codes "      X=IABS(1,2)" ∷ []) 4 2
    × Wrong (codes "      X=MAX(1)" ∷ []) 4 2
    × Wrong (codes "      X=MIN(1,2,3)" ∷ []) 4 2
    × Wrong (codes "      X=MOD(1)" ∷ []) 4 2
    × Wrong (codes "      X=1.GT.2" ∷ []) 4 2
    × Wrong (codes "      X=1.2" ∷ []) 4 2
    × Wrong (codes "      X=Y=1" ∷ []) 4 2
    × Wrong (codes "      A(1,2,3)=1" ∷ []) 4 2
    × Wrong (codes "      1=X" ∷ []) 4 2
    × Wrong (codes "      X(1)Y=1" ∷ []) 4 2
    × Wrong (codes "      ()=1" ∷ []) 4 2
    × Wrong (codes "      CALL" ∷ []) 4 2
    × Wrong (codes "      CALL Q(" ∷ []) 4 2
    × Wrong (codes "      CALL Q(X,)" ∷ []) 4 2
    × Wrong (codes "      CALL Q(X)Y" ∷ []) 4 2
    × Wrong (codes "      CALL Q()X" ∷ []) 4 2
    × Wrong (codes "      CALL 1" ∷ []) 4 2
    × Wrong (codes "      SUBROUTINE" ∷ []) 4 2
    × Refused Source (codes "      SUBROUTINE P(X,)" ∷ codes "      END" ∷ []) 4 1
    × Refused Source (codes "      SUBROUTINE P(1)" ∷ codes "      END" ∷ []) 4 1
    × Refused Source (codes "      SUBROUTINE P(X)Y" ∷ codes "      END" ∷ []) 4 1
    × Refused Source (codes "      SUBROUTINE P()Y" ∷ codes "      END" ∷ []) 4 1
    × Wrong (codes "      INTEGER" ∷ []) 4 2
    × Wrong (codes "      INTEGER*X" ∷ []) 4 2
    × Wrong (codes "      INTEGER X(1,2,3)" ∷ []) 4 2
    × Wrong (codes "      INTEGER X()" ∷ []) 4 2
    × Wrong (codes "      INTEGER X(1+2)" ∷ []) 4 2
    × Wrong (codes "      INTEGER X Y(1)Z" ∷ []) 4 2
    × Wrong (codes "      INTEGER X," ∷ []) 4 2
    × Wrong (codes "      DO I=1,2,3,4" ∷ []) 4 2
    × Wrong (codes "      DO I=1,2," ∷ []) 4 2
    × Wrong (codes "C$AD BINOMIAL-CKP 7" ∷ codes "      DO I=,1" ∷ []) 4 3
    × Wrong (codes "      DO ,I=1,2" ∷ []) 4 2
    × Wrong (codes "      IF(X)X=1" ∷ []) 4 2
    × Wrong (codes "      IF(X.GT.1.GT.2)X=1" ∷ []) 4 2
    × Wrong (codes "      IF(X.GT.1.AND.Y)X=1" ∷ []) 4 2
    × Wrong (codes "      IF(.NOT..NOT.X.GT.1)X=1" ∷ []) 4 2
    × Wrong (codes "      IF((X.GT.1).GT.2)X=1" ∷ []) 4 2
    × Wrong (codes "      IF(X.GT.1)IF(X.GT.2)X=1" ∷ []) 4 2
    × Wrong (codes "      IF(X.GT.1)CONTINUE" ∷ []) 4 2
    × Wrong (codes "      IF(X.XX.1)X=1" ∷ []) 4 2
    × Wrong (codes "     0" ∷ []) 4 2

-- ---- the grammar of units

-- statements that stand wrongly, or a text that ends within a unit
abbrev pub Misplaced : Type 0
Misplaced =
    Refused Source (codes "      X=1" ∷ codes "      END" ∷ []) 4 1
    × Refused Source (codes "      SUBROUTINE P" ∷ codes "      X=1" ∷ []) 4 2
    × Refused Source (codes "      SUBROUTINE P" ∷ []) 4 1
    × Refused Source (codes "      SUBROUTINE P" ∷ codes "      END" ∷ codes "      CONTINUE" ∷ []) 4 3
    × Wrong (codes "      SUBROUTINE Q" ∷ []) 4 2
    × Wrong (codes "      X=1" ∷ codes "      INTEGER X" ∷ []) 4 3
    × Wrong (codes "      CONTINUE" ∷ codes "      INTEGER X" ∷ []) 4 3
    × Wrong (codes "      INTEGER X" ∷ codes "      IMPLICIT NONE" ∷ []) 4 3
    × Wrong (codes "      IMPLICIT NONE" ∷ codes "      IMPLICIT NONE" ∷ []) 4 3
    × Wrong (codes "      RETURN" ∷ codes "      X=1" ∷ []) 4 3
    × Wrong (codes "      RETURN" ∷ codes "      RETURN" ∷ []) 4 3
    × Wrong (codes "      RETURN" ∷ codes "      INTEGER X" ∷ []) 4 3
    × Wrong (codes "      IF(X.GT.1)THEN" ∷ codes "      RETURN" ∷ codes "      END IF" ∷ []) 4 3
    × Wrong (codes "      IF(X.GT.1)THEN" ∷ []) 4 3
    × Wrong (codes "      DO I=1,2" ∷ []) 4 3
    × Wrong (codes "      END IF" ∷ []) 4 2
    × Wrong (codes "      ELSE" ∷ []) 4 2
    × Wrong (codes "      ELSE IF(X.GT.1)THEN" ∷ []) 4 2
    × Wrong (codes "      END DO" ∷ []) 4 2
    × Wrong (codes "      IF(X.GT.1)THEN" ∷ codes "      ELSE" ∷ codes "      ELSE" ∷ codes "      END IF" ∷ []) 4 4
    × Wrong (codes "      IF(X.GT.1)THEN" ∷ codes "      ELSE" ∷ codes "      ELSE IF(X.GT.1)THEN" ∷ codes "      END IF" ∷ []) 4 4
    × Wrong (codes "      IF(X.GT.1)THEN" ∷ codes "      END DO" ∷ []) 4 3
    × Wrong (codes "      DO I=1,2" ∷ codes "      END IF" ∷ []) 4 3
    × Wrong (codes "      DO I=1,2" ∷ codes "      ELSE" ∷ []) 4 3
    × Wrong (codes "      IF(X.GT.1)THEN" ∷ codes "      DO I=1,2" ∷ codes "      ELSE" ∷ []) 4 4
    × Wrong (codes "      DO WHILE(X.GT.1)" ∷ codes "      END IF" ∷ []) 4 3

-- a DO with a label that doesn't end on its CONTINUE
abbrev pub Unended : Type 0
Unended =
    Wrong (codes "      DO 10 I=1,2" ∷ codes " 10   X=1" ∷ []) 10 3
    × Wrong (codes "      DO 10 I=1,2" ∷ []) 10 3
    × Wrong (codes "      DO 10 I=1,2" ∷ codes "      END DO" ∷ []) 4 3
    × Wrong (codes "      DO N=1,2" ∷ codes "      DO 10 I=1,2" ∷ codes "      END DO" ∷ []) 10 4
    × Wrong (codes "      DO WHILE(X.GT.1)" ∷ codes "      DO 10 I=1,2" ∷ codes "      END DO" ∷ []) 10 4
    × Wrong (codes "      IF(X.GT.1)THEN" ∷ codes "      DO 10 I=1,2" ∷ codes "      END IF" ∷ []) 10 4
    × Wrong (codes "      IF(X.GT.1)THEN" ∷ codes "      DO 10 I=1,2" ∷ codes "      ELSE" ∷ []) 10 4
    × Wrong (codes "      IF(X.GT.1)THEN" ∷ codes "      DO 10 I=1,2" ∷ codes "      ELSE IF(X.GT.1)THEN" ∷ []) 10 4
    × Wrong (codes "      IF(X.GT.1)THEN" ∷ codes "      ELSE" ∷ codes "      DO 10 I=1,2" ∷ codes "      ELSE" ∷ []) 4 5
    × Wrong (codes "      IF(X.GT.1)THEN" ∷ codes "      ELSE" ∷ codes "      DO 10 I=1,2" ∷ codes "      END IF" ∷ []) 10 5
    × Wrong (codes "      DO 10 I=1,2" ∷ codes "      IF(X.GT.1)THEN" ∷ codes " 10   CONTINUE" ∷ codes "      END IF" ∷ []) 10 4
    × Wrong (codes "      DO 10 I=1,2" ∷ codes "      DO 20 N=1,2" ∷ codes " 10   CONTINUE" ∷ codes " 20   CONTINUE" ∷ []) 10 4
    × Wrong (codes "      DO 10 I=1,2" ∷ codes "      DO N=1,2" ∷ codes " 10   END DO" ∷ codes " 10   CONTINUE" ∷ []) 10 4
    × Wrong (codes "      DO 0 I=1,2" ∷ codes "      X=1" ∷ codes "      CONTINUE" ∷ []) 10 5

-- ---- what a statement holds

-- literals above the greatest word
abbrev pub TooLarge : Type 0
TooLarge =
    Wrong (codes "      X=9223372036854775808" ∷ []) 5 2
    × Wrong (codes "      X=-9223372036854775808" ∷ []) 5 2
    × Wrong (codes "      X=A(9223372036854775808)" ∷ []) 5 2
    × Wrong (codes "      X=A(9223372036854775808,1)" ∷ []) 5 2
    × Wrong (codes "      X=1+9223372036854775808" ∷ []) 5 2
    × Wrong (codes "      X=9223372036854775808+1" ∷ []) 5 2
    × Wrong (codes "      X=Y**9223372036854775808" ∷ []) 5 2
    × Wrong (codes "      X=9223372036854775808**2" ∷ []) 5 2
    × Wrong (codes "      A(9223372036854775808)=1" ∷ []) 5 2
    × Wrong (codes "      CALL Q(X,9223372036854775808)" ∷ []) 5 2
    × Wrong (codes "      INTEGER X(9223372036854775808)" ∷ []) 5 2
    × Wrong (codes "      INTEGER Y,X(1,9223372036854775808)" ∷ []) 5 2
    × Wrong (codes "      DO I=9223372036854775808,1" ∷ codes "      END DO" ∷ []) 5 2
    × Wrong (codes "      DO I=1,9223372036854775808" ∷ codes "      END DO" ∷ []) 5 2
    × Wrong (codes "      DO I=1,2,9223372036854775808" ∷ codes "      END DO" ∷ []) 5 2
    × Wrong (codes "      DO WHILE(X.GT.9223372036854775808)" ∷ codes "      END DO" ∷ []) 5 2
    × Wrong (codes "      IF(.NOT.9223372036854775808.GT.X)THEN" ∷ codes "      END IF" ∷ []) 5 2
    × Wrong (codes "      IF(X.GT.1.AND.X.GT.9223372036854775808)X=1" ∷ []) 5 2
    × Wrong (codes "      IF(X.GT.1.OR.X.GT.9223372036854775808)X=1" ∷ []) 5 2
    × Wrong (codes "      IF(X.GT.1)X=9223372036854775808" ∷ []) 5 2
    × Wrong (codes "      IF(X.GT.1)THEN" ∷ codes "      ELSE IF(X.GT.9223372036854775808)THEN" ∷ codes "      END IF" ∷ []) 5 3

-- names above the limit: 31 characters in a source, 63 in a text that is run
abbrev pub LongNames : Type 0
LongNames =
    (program_in Source (within (codes "      CALL A123456789B123456789C123456789D" ∷ [])) ≡ program_in Run (within (codes "      CALL A123456789B123456789C123456789D" ∷ [])))
    × Wrong (codes "      CALL A123456789B123456789C123456789DE" ∷ []) 6 2
    × Wrong (codes "      X=Y+A123456789B123456789C123456789DE" ∷ []) 6 2
    × Wrong (codes "C$AD BINOMIAL-CKP A123456789B123456789C123456789DE" ∷ codes "      DO I=1,2" ∷ codes "      END DO" ∷ []) 6 3
    × Wrong (codes "C$AD BINOMIAL-CKP A123456789B123456789C123456789DE" ∷ codes "      CONTINUE" ∷ []) 20 2
    × Wrong (codes "      X=12345678901234567890123456789012345" ∷ []) 5 2
    × Refused Run (within (codes "      X=A123456789B123456789C123456789D123456789E123456789F1234" ∷ codes "     1567890123" ∷ [])) 6 2

-- literal exponents that are no number from 0 to 63
abbrev pub WrongExponents : Type 0
WrongExponents =
    Wrong (codes "      X=Y**64" ∷ []) 25 2
    × Wrong (codes "      X=Y**(-1)" ∷ []) 25 2
    × Wrong (codes "      X=Y**(1-2)" ∷ []) 25 2
    × Wrong (codes "      X=Y**(2**(-1))" ∷ []) 25 2
    × Wrong (codes "      X=Y**(2**63-2**63)" ∷ []) 25 2
    × Wrong (codes "      X=Y**(0*(9223372036854775807+1))" ∷ []) 25 2
    × Wrong (codes "      X=Y**(0*(-9223372036854775807-2))" ∷ []) 25 2
    × Wrong (codes "      X=Y**(0*(9223372036854775807*2))" ∷ []) 25 2
    × Wrong (codes "      X=A(Y**64,1)" ∷ []) 25 2
    × Wrong (codes "      A(Y**64)=1" ∷ []) 25 2
    × Wrong (codes "      CALL Q(X,Y**64)" ∷ []) 25 2
    × Wrong (codes "      DO I=1,2,Y**64" ∷ codes "      END DO" ∷ []) 25 2
    × Wrong (codes "      IF(X.GT.Y**64)X=1" ∷ []) 25 2
    × Wrong (codes "      IF(X.GT.1)X=Y**64" ∷ []) 25 2
    × Wrong (codes "      X=Y**(2**64)" ∷ []) 25 2
