-- Programs with blocks, worked out by hand.
use Rattle.std.specs.Prelude.{◌≡◌, ℕ, ℤ, pos, List, [], ◌∷◌, false, Some, None, codes}
use Rattle.adj_tree.specs.Code.{plain, Term, lit, var, elem, bin, plus, times, none, more, Act, assign, loop, unmarked, call, stop, step, fixed, given, Declaration, Procedure}
use Rattle.def_meaning.specs.Numbers.{words}
use Rattle.def_meaning.specs.Store.{scalar}
use Rattle.def_meaning.specs.Scene.{Outcome, Done, then_do}
use Rattle.def_meaning.specs.Units.{Slot, Output, run_unit}
use Rattle.adj_tree.specs.Common.{Common, Shared}
use Rattle.def_common.specs.Lowering.{lowered_program, lowered_unit}
use Rattle.def_common.specs.Slots.{run_with_blocks}
use Rattle.def_names.specs.Fault.{source_rules, fault}
use Rattle.def_names.specs.Check.{first_fault}
use Rattle.law_common.specs.Accepted.{Accepted}
use Rattle.def_common.specs.Refused.{layout_refusal}

abbrev v : List ℕ → Term
v x = var (plain x)

abbrev set : List ℕ → Term → Act
set x e = assign (plain x) none e

abbrev pub declare : ℕ → List ℕ → Declaration
declare line x = record { line = line; name = x; extents = [] }

abbrev pub common : ℕ → List Declaration → Common
common line items = record { line = line; block = codes "B"; items = items }

-- SUBROUTINE P(X,Y); INTEGER*8 X,Y,K; COMMON /B/ K; K=X*X; CALL G(Y); END
abbrev pub first : Shared
first = record {
  unit = record { line = 1; name = codes "P"; dummies = codes "X" ∷ codes "Y" ∷ []; is_none = false; declarations = declare 2 (codes "X") ∷ declare 2 (codes "Y") ∷ declare 2 (codes "K") ∷ []; body = step 4 (set (codes "K") (bin times (v (codes "X")) (v (codes "X")))) (step 5 (call (codes "G") (more (v (codes "Y")) none)) stop) };
  commons = common 3 (declare 3 (codes "K") ∷ []) ∷ [];
}

-- SUBROUTINE G(A); INTEGER*8 A,L; COMMON /B/ L; A=L*3; END
abbrev pub second : Shared
second = record {
  unit = record { line = 7; name = codes "G"; dummies = codes "A" ∷ []; is_none = false; declarations = declare 8 (codes "A") ∷ declare 8 (codes "L") ∷ []; body = step 10 (set (codes "A") (bin times (v (codes "L")) (lit (pos 3)))) stop };
  commons = common 9 (declare 9 (codes "L") ∷ []) ∷ [];
}

abbrev pub shared : List Shared
shared = first ∷ second ∷ []

abbrev lowered_first : Procedure
lowered_first = record { line = 1; name = codes "P"; dummies = codes "X" ∷ codes "Y" ∷ codes "K" ∷ []; is_none = false; declarations = declare 2 (codes "X") ∷ declare 2 (codes "Y") ∷ declare 2 (codes "K") ∷ []; body = step 4 (set (codes "K") (bin times (v (codes "X")) (v (codes "X")))) (step 5 (call (codes "G") (more (v (codes "Y")) (more (v (codes "K")) none))) stop) }

abbrev lowered_second : Procedure
lowered_second = record { line = 7; name = codes "G"; dummies = codes "A" ∷ codes "L" ∷ []; is_none = false; declarations = declare 8 (codes "A") ∷ declare 8 (codes "L") ∷ []; body = step 10 (set (codes "A") (bin times (v (codes "L")) (lit (pos 3)))) stop }

abbrev pub WorkedLowering : Type 0
WorkedLowering = lowered_program shared ≡ (lowered_first ∷ lowered_second ∷ [])

-- ---- runs

abbrev word : ℤ → Slot ℤ
word z = record { shape = scalar; cells = z ∷ [] }

-- X 2, Y 0, K 5
abbrev pub input : List (Slot ℤ)
input = word (pos 2) ∷ word (pos 0) ∷ word (pos 5) ∷ []

-- the slots of a run that is done, with the statements that it used
abbrev ended : Outcome (Output ℤ) → Outcome (List (Slot ℤ))
ended o = then_do o (λ out used. Done out.slots used)

-- X 2, Y 12, K 4 after three statements
abbrev pub WorkedRun : Type 0
WorkedRun = ended (run_with_blocks words shared first input [] None 9) ≡ Done (word (pos 2) ∷ word (pos 12) ∷ word (pos 4) ∷ []) 3

abbrev pub WorkedLoweredRun : Type 0
WorkedLoweredRun = ended (run_unit words (lowered_program shared) (lowered_unit shared first) input [] None 9) ≡ Done (word (pos 2) ∷ word (pos 12) ∷ word (pos 4) ∷ []) 3

-- SUBROUTINE H(Z,K); INTEGER*8 Z,K; CALL G(Z); END: it uses the block, and K is a dummy of its own
abbrev pub between : Shared
between = record {
  unit = record { line = 12; name = codes "H"; dummies = codes "Z" ∷ codes "K" ∷ []; is_none = false; declarations = declare 13 (codes "Z") ∷ declare 13 (codes "K") ∷ []; body = step 14 (call (codes "G") (more (v (codes "Z")) none)) stop };
  commons = [];
}

abbrev lowered_between : Procedure
lowered_between = record { line = 12; name = codes "H"; dummies = codes "Z" ∷ codes "K" ∷ codes "K_1" ∷ []; is_none = false; declarations = declare 13 (codes "Z") ∷ declare 13 (codes "K") ∷ declare 12 (codes "K_1") ∷ []; body = step 14 (call (codes "G") (more (v (codes "Z")) (more (v (codes "K_1")) none))) stop }

-- its member is passed through under a fresh name; with Z 0, K 7 and the block's member 5 it gives Z 15
abbrev pub WorkedPassing : Type 0
WorkedPassing =
    (lowered_unit (first ∷ second ∷ between ∷ []) between ≡ lowered_between)
    × ((ended (run_with_blocks words (first ∷ second ∷ between ∷ []) between (word (pos 0) ∷ word (pos 7) ∷ word (pos 5) ∷ []) [] None 9) ≡ Done (word (pos 15) ∷ word (pos 7) ∷ word (pos 5) ∷ []) 2)
    × (ended (run_unit words (lowered_program (first ∷ second ∷ between ∷ [])) (lowered_unit (first ∷ second ∷ between ∷ []) between) (word (pos 0) ∷ word (pos 7) ∷ word (pos 5) ∷ []) [] None 9) ≡ Done (word (pos 15) ∷ word (pos 7) ∷ word (pos 5) ∷ []) 2))

-- ---- what is asked of programs holds of these

-- SUBROUTINE Q(N); INTEGER*8 N,I,S; COMMON /B/ S,M(3); DO I=1,3; M(I)=S*I; END DO; CALL H(N); END: M is declared by the block's item alone
abbrev pub Q : Shared
Q = record {
  unit = record { line = 1; name = codes "Q"; dummies = codes "N" ∷ []; is_none = false; declarations = declare 2 (codes "N") ∷ declare 2 (codes "I") ∷ declare 2 (codes "S") ∷ []; body = step 4 (loop (plain (codes "I")) (lit (pos 1)) (lit (pos 3)) (lit (pos 1)) (step 5 (assign (plain (codes "M")) (more (v (codes "I")) none) (bin times (v (codes "S")) (v (codes "I")))) stop) unmarked) (step 7 (call (codes "H") (more (v (codes "N")) none)) stop) };
  commons = common 3 (declare 3 (codes "S") ∷ record { line = 3; name = codes "M"; extents = fixed (pos 3) ∷ [] } ∷ []) ∷ [];
}

-- SUBROUTINE H(Y); INTEGER*8 Y,A,L(3); COMMON /B/ A; COMMON /B/ L; Y=A+L(2); A=Y; END
abbrev pub summing : Shared
summing = record {
  unit = record { line = 10; name = codes "H"; dummies = codes "Y" ∷ []; is_none = false; declarations = declare 11 (codes "Y") ∷ declare 11 (codes "A") ∷ record { line = 11; name = codes "L"; extents = fixed (pos 3) ∷ [] } ∷ []; body = step 14 (set (codes "Y") (bin plus (v (codes "A")) (elem (plain (codes "L")) (more (lit (pos 2)) none)))) (step 15 (set (codes "A") (v (codes "Y"))) stop) };
  commons = common 12 (declare 12 (codes "A") ∷ []) ∷ common 13 (declare 13 (codes "L") ∷ []) ∷ [];
}

abbrev pub WorkedAccepted : Type 0
WorkedAccepted = Accepted source_rules shared × Accepted source_rules (first ∷ second ∷ between ∷ [])

abbrev pub three : List ℤ → Slot ℤ
three zs = record { shape = record { rows = 3; cols = 0 }; cells = zs }

-- with S 5 the array gets 5, 10, 15, and N and S 15
abbrev pub WorkedArrays : Type 0
WorkedArrays =
    Accepted source_rules (Q ∷ summing ∷ [])
    × (ended (run_with_blocks words (Q ∷ summing ∷ []) Q (word (pos 0) ∷ word (pos 5) ∷ three (pos 0 ∷ pos 0 ∷ pos 0 ∷ []) ∷ []) [] None 19) ≡ Done (word (pos 15) ∷ word (pos 15) ∷ three (pos 5 ∷ pos 10 ∷ pos 15 ∷ []) ∷ []) 10)

-- ---- refusals

-- the second unit with COMMON /B/ L,M in line 9
abbrev longer : Shared
longer = record second { commons = common 9 (declare 9 (codes "L") ∷ declare 9 (codes "M") ∷ []) ∷ [] }

-- the first with INTEGER*8 K(X)
abbrev named : Shared
named = record first { unit = record first.unit { declarations = record { line = 2; name = codes "K"; extents = given (codes "X") ∷ [] } ∷ [] } }

-- H with a member more in its second statement of the block
abbrev longer_summing : Shared
longer_summing = record summing { commons = common 12 (declare 12 (codes "A") ∷ []) ∷ common 13 (declare 13 (codes "L") ∷ declare 13 (codes "M") ∷ []) ∷ [] }

abbrev pub WorkedRefusals : Type 0
WorkedRefusals = (layout_refusal shared ≡ None) × ((layout_refusal (first ∷ longer ∷ []) ≡ Some (fault 26 9)) × ((layout_refusal (named ∷ second ∷ []) ≡ Some (fault 26 3)) × (layout_refusal (Q ∷ longer_summing ∷ []) ≡ Some (fault 26 13))))

-- ---- what is asked is needed

-- the first with CALL G(K), and the second with L=1 behind its statement
abbrev handing : Shared
handing = record first { unit = record first.unit { body = step 4 (set (codes "K") (bin times (v (codes "X")) (v (codes "X")))) (step 5 (call (codes "G") (more (v (codes "K")) none)) stop) } }

abbrev setting : Shared
setting = record second { unit = record second.unit { body = step 10 (set (codes "A") (bin times (v (codes "L")) (lit (pos 3)))) (step 11 (set (codes "L") (lit (pos 1))) stop) } }

-- With X 2 the unit that is called sets the member to 1, and its dummy, which is 12 then, is copied out to the member. The lowered program copies
-- out the dummy first, and then the member: it is refused for one variable as two actuals.
abbrev pub WorkedClash : Type 0
WorkedClash =
    (first_fault source_rules (lowered_program (handing ∷ setting ∷ [])) ≡ Some (fault 17 5))
    × ((ended (run_with_blocks words (handing ∷ setting ∷ []) handing input [] None 9) ≡ Done (word (pos 2) ∷ word (pos 0) ∷ word (pos 12) ∷ []) 4)
    × (ended (run_unit words (lowered_program (handing ∷ setting ∷ [])) (lowered_unit (handing ∷ setting ∷ []) handing) input [] None 9) ≡ Done (word (pos 2) ∷ word (pos 0) ∷ word (pos 1) ∷ []) 4))

-- SUBROUTINE H(Z,K,W); INTEGER*8 Z,K,W(K_1); CALL G(Z); END
abbrev naming : Shared
naming = record between { unit = record between.unit { dummies = codes "Z" ∷ codes "K" ∷ codes "W" ∷ []; declarations = declare 13 (codes "Z") ∷ declare 13 (codes "K") ∷ record { line = 13; name = codes "W"; extents = given (codes "K_1") ∷ [] } ∷ [] } }

-- a name among extents isn't free for the member that is passed through: that would be the extent, where the text has none
abbrev pub WorkedNaming : Type 0
WorkedNaming =
    ((lowered_unit (first ∷ second ∷ naming ∷ []) naming).dummies ≡ (codes "Z" ∷ codes "K" ∷ codes "W" ∷ codes "K_2" ∷ []))
    × (first_fault source_rules (lowered_program (first ∷ second ∷ naming ∷ [])) ≡ Some (fault 12 13))
