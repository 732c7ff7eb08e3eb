-- Two members that a CALL passes in another order: the runs of that program aren't those with blocks.
use Rattle.std.specs.Prelude.{◌≡◌, ℕ, ℤ, pos, List, [], ◌∷◌, false, None, codes}
use Rattle.adj_tree.specs.Code.{plain, Term, var, none, more, assign, call, stop, step, Declaration, Procedure}
use Rattle.adj_tree.specs.Common.{Common, Shared}
use Rattle.def_meaning.specs.Numbers.{words}
use Rattle.def_meaning.specs.Units.{Slot, run_unit}
use Rattle.def_common.specs.Lowering.{lowered_unit}
use Rattle.def_common.specs.Slots.{run_with_blocks}
use Rattle.law_examples.specs.Programs.{word}

abbrev v : List ℕ → Term
v x = var (plain x)

abbrev declare : ℕ → List ℕ → Declaration
declare line x = record { line = line; name = x; extents = [] }

abbrev members : ℕ → List ℕ → List ℕ → List Common
members line x y = record { line = line; block = codes "B"; items = declare line x ∷ declare line y ∷ [] } ∷ []

-- SUBROUTINE P(Y); INTEGER*8 Y,K,L; COMMON /B/ K,L; CALL G(Y); END
abbrev pub calling_reader : Shared
calling_reader = record {
  unit = record { line = 1; name = codes "P"; dummies = codes "Y" ∷ []; is_none = false; declarations = declare 2 (codes "Y") ∷ declare 2 (codes "K") ∷ declare 2 (codes "L") ∷ []; body = step 4 (call (codes "G") (more (v (codes "Y")) none)) stop };
  commons = members 3 (codes "K") (codes "L");
}

-- SUBROUTINE G(A); INTEGER*8 A,M,N; COMMON /B/ M,N; A=M; END
abbrev pub reader : Shared
reader = record {
  unit = record { line = 6; name = codes "G"; dummies = codes "A" ∷ []; is_none = false; declarations = declare 7 (codes "A") ∷ declare 7 (codes "M") ∷ declare 7 (codes "N") ∷ []; body = step 9 (assign (plain (codes "A")) none (v (codes "M"))) stop };
  commons = members 8 (codes "M") (codes "N");
}

abbrev pub sharing : List Shared
sharing = calling_reader ∷ reader ∷ []

-- the caller passes K and L behind its actual
abbrev pub MembersInOrder : Type 0
MembersInOrder = (lowered_unit sharing calling_reader).body ≡ step 4 (call (codes "G") (more (v (codes "Y")) (more (v (codes "K")) (more (v (codes "L")) none)))) stop

-- L and then K
abbrev pub turned : Procedure
turned = record (lowered_unit sharing calling_reader) { body = step 4 (call (codes "G") (more (v (codes "Y")) (more (v (codes "L")) (more (v (codes "K")) none)))) stop }

-- Y 0, K 5, L 7
abbrev pub before : List (Slot ℤ)
before = word (pos 0) ∷ word (pos 5) ∷ word (pos 7) ∷ []

-- with blocks Y becomes 5, and in that program 7
abbrev pub TurnedIsRefused : Type 0
TurnedIsRefused = run_with_blocks words sharing calling_reader before [] None 9 ≡ run_unit words (turned ∷ lowered_unit sharing reader ∷ []) turned before [] None 9 → ⊥
