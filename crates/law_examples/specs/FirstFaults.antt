-- FirstFaults: texts with several faults, of which the first is told: passes in order, then lines, and at one statement codes in their order.
use Rattle.std.specs.Prelude.{ℕ, List, [], ◌∷◌, ◌++◌, codes}
use Rattle.def_text.specs.declared.mode.Mode.TheVariants.{Source}
use Rattle.law_examples.specs.Refusals.{Wrong, Limited, within}
use Rattle.law_examples.specs.Limits.{often, on_lines, signed, ifs_open}

-- X is something that is too deep
abbrev pub below : List ℕ → List (List ℕ)
below cs = on_lines (codes "X=" ++ signed 100 cs) ∷ []

-- what is wrong with lines is told before what is wrong with statements, and that before what is wrong with units; among these the first line
abbrev pub Passes : Type 0
Passes =
    Wrong (codes "      STOP" ∷ codes "      X=?" ∷ []) 2 3
    × Wrong (codes "      X=" ∷ codes "      X=?" ∷ []) 2 3
    × Wrong (codes "      X=" ∷ codes "      STOP" ∷ []) 3 3
    × Wrong (codes "      X=?" ∷ codes " A    X=1" ∷ []) 2 2
    × Wrong (codes "      X=)" ∷ codes "      STOP" ∷ []) 4 2
    × Wrong (codes "      X=9223372036854775808" ∷ codes "      X=" ∷ []) 5 2

-- of one line
abbrev pub OfLines : Type 0
OfLines =
    Wrong (codes " A    X=?" ∷ []) 1 2
    × Wrong (codes "    1+X=?" ∷ []) 1 2
    × Wrong (codes "      X=1" ∷ often 19 (codes "     11" ∷ []) ++ codes "     1?" ∷ []) 2 22

-- of one statement, before its grammar is looked at
abbrev pub OfTexts : Type 0
OfTexts =
    Wrong (codes "      STOP)" ∷ []) 3 2
    × Wrong (codes "      X=A123456789B123456789C123456789DE)" ∷ []) 4 2
    × Wrong (codes "      X=A123456789B123456789C123456789DE+" ∷ []) 6 2

-- of one statement
abbrev pub OfStatements : Type 0
OfStatements =
    Wrong (codes "C$AD BINOMIAL-CKP 7" ∷ codes "      X=" ∷ []) 20 2
    × Wrong (codes "C$AD BINOMIAL-CKP 7" ∷ codes "      END DO" ∷ []) 20 2
    × Wrong (codes "      RETURN" ∷ codes "      X=9223372036854775808" ∷ []) 4 3
    × Wrong (codes "      DO 10 I=1,2" ∷ codes " 10   X=" ∷ []) 4 3
    × Wrong (codes "      RETURN" ∷ below (codes "1")) 4 3
    × Wrong (codes "      RETURN" ∷ codes "      X=Y**64" ∷ []) 4 3
    × Wrong (codes "      DO 10 I=1,2" ∷ codes " 10   X=9223372036854775808" ∷ []) 5 3
    × Wrong (below (codes "9223372036854775808")) 5 2
    × Wrong (codes "      X=Y**64+9223372036854775808" ∷ []) 5 2
    × Wrong (ifs_open 29 ++ codes "      DO 10 I=1,2" ∷ codes " 10   IF(X.GT.1)THEN" ∷ []) 10 32
    × Wrong (codes "      DO 10 I=1,2" ∷ codes " 10   X=Y**64" ∷ []) 10 3
    × Limited Source (within (ifs_open 30 ++ codes "      IF(X.GT.Y**64)THEN" ∷ [])) 30 32
    × Limited Source (within (below (codes "Y**64"))) 100 2
    × Limited Source (within (ifs_open 30 ++ on_lines (codes "IF(" ++ signed 100 (codes "1") ++ codes ".GT.X)THEN") ∷ [])) 100 32
