-- What is emitted for the worked programs by full marks, statement by statement. (docs/EMITTED.md, "Sweeps")
use Rattle.std.specs.Prelude.{ℕ, pos, List, [], ◌∷◌, ◌++◌, map, false, codes}
use Rattle.adj_tree.specs.Code.{plus, minus, times, greater, lesser, Term, lit, var, bin, plain, none, is_same, compare, unmarked, push_word, pop_word, begin_reversal, count_actions, give_action, end_reversal, Act, choose, loop, call, runtime, Code, stop, step, Declaration, Procedure}
use Rattle.law_sweep.specs.Examples.{set}
use Rattle.def_sweep.specs.Plan.{actuals_named}
use Rattle.law_examples.specs.Sources.{squaring}

-- ---- how it is written

abbrev use_of : List ℕ → Term
use_of x = var (plain x)

abbrev number : ℕ → Term
number n = lit (pos n)

abbrev gets : List ℕ → Term → Act
gets x e = set (plain x) e

abbrev push : List ℕ → Act
push x = runtime (push_word (plain x) none)

abbrev pop : List ℕ → Act
pop x = runtime (pop_word (plain x) none)

abbrev call_of : List ℕ → List (List ℕ) → Act
call_of name given = call name (actuals_named given)

-- statements at one line, and more behind them
abbrev all_at : ℕ → List Act → Code → Code
all_at line [] rest = rest
all_at line (a ∷ acts) rest = step line a (all_at line acts rest)

abbrev scalars : ℕ → List (List ℕ) → List Declaration
scalars line xs = map (λ x. record { line = line; name = x; extents = [] }) xs

abbrev unit : List ℕ → List (List ℕ) → List (List ℕ) → Code → Procedure
unit name dummies helpers body = record { line = 1; name = name; dummies = dummies; is_none = false; declarations = scalars 2 dummies ++ scalars 1 helpers; body = body }

-- ---- the units

-- S_B(A,AB)
abbrev squaring_back : Procedure
squaring_back =
    unit (codes "S_B") (codes "A" ∷ codes "AB" ∷ []) (codes "ADW1" ∷ codes "ADW2" ∷ [])
    (all_at 3 (
    push (codes "A")
    ∷ gets (codes "A") (bin times (use_of (codes "A")) (use_of (codes "A")))
    ∷ pop (codes "A")
    ∷ gets (codes "ADW1") (use_of (codes "AB"))
    ∷ gets (codes "AB") (number 0)
    ∷ gets (codes "ADW2") (bin times (use_of (codes "ADW1")) (use_of (codes "A")))
    ∷ gets (codes "AB") (bin plus (use_of (codes "AB")) (use_of (codes "ADW2")))
    ∷ gets (codes "ADW2") (bin times (use_of (codes "ADW1")) (use_of (codes "A")))
    ∷ gets (codes "AB") (bin plus (use_of (codes "AB")) (use_of (codes "ADW2")))
    ∷ []) stop)

-- what is done for the actions of a kind
abbrev arm : ℕ → Code → Act
arm k c = choose (compare is_same (use_of (codes "ADA1")) (number k)) c stop

-- I at the turn whose number stands in a helper
abbrev at_turn : List ℕ → Act
at_turn j = gets (codes "I") (bin plus (use_of (codes "ADM1")) (bin times (use_of j) (use_of (codes "ADI1"))))

-- one action of a schedule with so many snapshots, with the arms in the order of their kinds
abbrev action : Term → Code
action m =
    all_at 3 (
    runtime (give_action (use_of (codes "ADL1")) m (use_of (codes "ADK1")) (plain (codes "ADA1")) (plain (codes "ADF1")) (plain (codes "ADT1")))
    ∷ arm 1 (all_at 3 (push (codes "X") ∷ []) stop)
    ∷ arm 2 (all_at 3 (loop (plain (codes "ADJ1")) (use_of (codes "ADF1")) (bin minus (use_of (codes "ADT1")) (number 1)) (number 1) (all_at 3 (at_turn (codes "ADJ1") ∷ call_of (codes "S") (codes "X" ∷ []) ∷ []) stop) unmarked ∷ []) stop)
    ∷ arm 3 (all_at 3 (at_turn (codes "ADF1") ∷ call_of (codes "S_B") (codes "X" ∷ codes "XB" ∷ []) ∷ []) stop)
    ∷ arm 4 (all_at 3 (pop (codes "X") ∷ push (codes "X") ∷ []) stop)
    ∷ arm 5 (all_at 3 (pop (codes "X") ∷ []) stop)
    ∷ []) stop

-- the forward sweep of a loop of n steps, and what gets and pushes its number of snapshots
abbrev forth : ℕ → List Act → List Act → List Act
forth n setting pushing =
    push (codes "I")
    ∷ gets (codes "ADM1") (number 1)
    ∷ gets (codes "ADI1") (number 1)
    ∷ (setting
    ++ (gets (codes "ADL1") (number 0)
    ∷ push (codes "X")
    ∷ push (codes "X")
    ∷ loop (plain (codes "I")) (use_of (codes "ADM1")) (number n) (use_of (codes "ADI1")) (all_at 3 (call_of (codes "S") (codes "X" ∷ []) ∷ gets (codes "ADL1") (bin plus (use_of (codes "ADL1")) (number 1)) ∷ []) stop) unmarked
    ∷ push (codes "ADM1")
    ∷ push (codes "ADI1")
    ∷ (pushing ++ (push (codes "ADL1") ∷ []))))

-- the backward sweep, what pops its number of snapshots, and what that is
abbrev back : List Act → Term → List Act
back popped m =
    pop (codes "ADL1")
    ∷ (popped
    ++ (pop (codes "ADI1")
    ∷ pop (codes "ADM1")
    ∷ pop (codes "X")
    ∷ runtime (begin_reversal (use_of (codes "ADL1")) m)
    ∷ runtime (count_actions (use_of (codes "ADL1")) m (plain (codes "ADN1")))
    ∷ loop (plain (codes "ADK1")) (number 1) (use_of (codes "ADN1")) (number 1) (action m) unmarked
    ∷ runtime end_reversal
    ∷ pop (codes "X")
    ∷ pop (codes "I")
    ∷ gets (codes "IB") (number 0)
    ∷ []))

abbrev helpers : List (List ℕ)
helpers = codes "ADL1" ∷ codes "ADM1" ∷ codes "ADI1" ∷ codes "ADJ1" ∷ codes "ADK1" ∷ codes "ADN1" ∷ codes "ADA1" ∷ codes "ADF1" ∷ codes "ADT1" ∷ []

-- P_B(X,XB,I,IB)
abbrev pub reversing : ℕ → ℕ → Procedure
reversing n m =
    unit (codes "P_B") (codes "X" ∷ codes "XB" ∷ codes "I" ∷ codes "IB" ∷ []) helpers
    (all_at 3 (forth n [] []) (all_at 1 (gets (codes "IB") (number 0) ∷ []) (all_at 3 (back [] (number m)) (all_at 1 (gets (codes "IB") (number 0) ∷ []) stop))))

-- P_B(X,XB,I,IB,N,NB), where ADS1 has the number of snapshots: N, but from 1 to 64
abbrev pub reversing_numbered : ℕ → Procedure
reversing_numbered n =
    unit (codes "P_B") (codes "X" ∷ codes "XB" ∷ codes "I" ∷ codes "IB" ∷ codes "N" ∷ codes "NB" ∷ []) (helpers ++ (codes "ADS1" ∷ []))
    (all_at 3 (forth n (gets (codes "ADS1") (bin lesser (bin greater (use_of (codes "N")) (number 1)) (number 64)) ∷ []) (push (codes "ADS1") ∷ []))
    (all_at 1 (gets (codes "IB") (number 0) ∷ gets (codes "NB") (number 0) ∷ [])
    (all_at 3 (back (pop (codes "ADS1") ∷ []) (use_of (codes "ADS1"))) (all_at 1 (gets (codes "IB") (number 0) ∷ gets (codes "NB") (number 0) ∷ []) stop))))

-- for P over S
abbrev pub repeating_adjoint : ℕ → ℕ → List Procedure
repeating_adjoint n m = squaring ∷ squaring_back ∷ reversing n m ∷ []

abbrev pub numbering_adjoint : ℕ → List Procedure
numbering_adjoint n = squaring ∷ squaring_back ∷ reversing_numbered n ∷ []
