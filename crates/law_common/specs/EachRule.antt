-- Each rule of lowering, in one program that was worked out by hand.
use Rattle.std.specs.Prelude.{◌≡◌, ℕ, pos, List, [], ◌∷◌, Bool, true, false, None, Some, codes}
use Rattle.adj_tree.specs.Code.{plain, Term, lit, var, none, more, is_less, compare, Act, assign, choose, loop, during, unmarked, call, Code, stop, step, Extent, fixed, given, Declaration, Procedure}
use Rattle.adj_tree.specs.Common.{Common, Shared}
use Rattle.def_names.specs.Fault.{fault}
use Rattle.def_common.specs.Lowering.{lowered_program}
use Rattle.def_common.specs.Refused.{layout_refusal}

abbrev v : List ℕ → Term
v x = var (plain x)

abbrev declare : ℕ → List ℕ → List Extent → Declaration
declare line x es = record { line = line; name = x; extents = es }

abbrev of : ℕ → List Extent
of n = fixed (pos n) ∷ []

abbrev common : ℕ → List ℕ → List Declaration → Common
common line b items = record { line = line; block = b; items = items }

abbrev one : ℕ → Act → Code
one line a = step line a stop

-- P declares C, and B in two statements; it calls G in an IF, a DO and a DO WHILE, and N. K takes the extents of its item, M keeps its own,
-- J gets a declaration by its item, R none, since its name begins with no letter from I to N, and L, which has extents twice, a second one
abbrev pub declaring : Shared
declaring = record {
  unit = record {
    line = 1;
    name = codes "P";
    dummies = codes "X" ∷ [];
    is_none = false;
    declarations = declare 2 (codes "X") [] ∷ declare 2 (codes "K") [] ∷ declare 2 (codes "M") (of 4) ∷ declare 2 (codes "L") (of 2) ∷ [];
    body =
        step 6 (choose (compare is_less (v (codes "X")) (lit (pos 0))) (one 7 (call (codes "G") (more (v (codes "X")) none))) (one 9 (call (codes "N") none)))
        (step 11 (loop (plain (codes "I")) (lit (pos 1)) (lit (pos 2)) (lit (pos 1)) (one 12 (call (codes "G") (more (v (codes "X")) none))) unmarked)
        (step 14 (during (compare is_less (v (codes "X")) (lit (pos 0))) (one 15 (call (codes "G") (more (v (codes "X")) none)))) stop));
  };
  commons = common 3 (codes "C") (declare 3 (codes "J") (of 2) ∷ declare 3 (codes "R") (of 2) ∷ []) ∷ common 4 (codes "B") (declare 4 (codes "K") (of 3) ∷ declare 4 (codes "M") [] ∷ []) ∷ common 5 (codes "B") (declare 5 (codes "L") (of 2) ∷ []) ∷ [];
}

-- N has IMPLICIT NONE and a block of its own, whose members aren't declared. P, which calls it, passes them through: I is a variable of P, I_1 is the
-- name that I gets there, MAX is reserved and G is a unit
abbrev pub alone : Shared
alone = record {
  unit = record { line = 20; name = codes "N"; dummies = []; is_none = true; declarations = []; body = stop };
  commons = common 21 (codes "D") (declare 21 (codes "I") (of 2) ∷ declare 21 (codes "I_1") [] ∷ declare 21 (codes "MAX") [] ∷ declare 21 (codes "G") [] ∷ []) ∷ [];
}

-- G declares none, and calls Q, which declares B: it passes its three members through. K is a variable of its own and K_1 an extent
abbrev pub passing : Shared
passing = record {
  unit = record {
    line = 30;
    name = codes "G";
    dummies = codes "K" ∷ [];
    is_none = true;
    declarations = declare 31 (codes "K") [] ∷ declare 31 (codes "A") (given (codes "K_1") ∷ []) ∷ [];
    body = one 32 (call (codes "Q") (more (v (codes "K")) none));
  };
  commons = [];
}

-- Q declares B in one statement
abbrev pub last : Shared
last = record {
  unit = record { line = 40; name = codes "Q"; dummies = codes "A" ∷ []; is_none = false; declarations = declare 41 (codes "U") (of 3) ∷ []; body = one 43 (assign (plain (codes "A")) none (lit (pos 1))) };
  commons = common 42 (codes "B") (declare 42 (codes "U") [] ∷ declare 42 (codes "L") (of 4) ∷ declare 42 (codes "I") (of 2) ∷ []) ∷ [];
}

abbrev pub whole : List Shared
whole = declaring ∷ alone ∷ passing ∷ last ∷ []

-- ---- the same lowered

abbrev call_G : Act
call_G = call (codes "G") (more (v (codes "X")) (more (v (codes "K")) (more (v (codes "M")) (more (v (codes "L")) none))))

abbrev pub lowered_declaring : Procedure
lowered_declaring = record {
  line = 1;
  name = codes "P";
  dummies = codes "X" ∷ codes "J" ∷ codes "R" ∷ codes "K" ∷ codes "M" ∷ codes "L" ∷ codes "I_1" ∷ codes "I_1_1" ∷ codes "MAX_1" ∷ codes "G_1" ∷ [];
  is_none = false;
  declarations =
      declare 2 (codes "X") [] ∷ declare 2 (codes "K") (of 3) ∷ declare 2 (codes "M") (of 4) ∷ declare 2 (codes "L") (of 2)
      ∷ declare 3 (codes "J") (of 2) ∷ declare 5 (codes "L") (of 2) ∷ declare 1 (codes "I_1") (of 2) ∷ declare 1 (codes "I_1_1") [] ∷ declare 1 (codes "MAX_1") [] ∷ declare 1 (codes "G_1") [] ∷ [];
  body =
      step 6 (choose (compare is_less (v (codes "X")) (lit (pos 0))) (one 7 call_G) (one 9 (call (codes "N") (more (v (codes "I_1")) (more (v (codes "I_1_1")) (more (v (codes "MAX_1")) (more (v (codes "G_1")) none)))))))
      (step 11 (loop (plain (codes "I")) (lit (pos 1)) (lit (pos 2)) (lit (pos 1)) (one 12 call_G) unmarked)
      (step 14 (during (compare is_less (v (codes "X")) (lit (pos 0))) (one 15 call_G)) stop));
}

abbrev pub lowered_alone : Procedure
lowered_alone = record alone.unit { dummies = codes "I" ∷ codes "I_1" ∷ codes "MAX" ∷ codes "G" ∷ [] }

abbrev pub lowered_passing : Procedure
lowered_passing = record passing.unit {
  dummies = codes "K" ∷ codes "K_2" ∷ codes "M" ∷ codes "L" ∷ [];
  declarations = declare 31 (codes "K") [] ∷ declare 31 (codes "A") (given (codes "K_1") ∷ []) ∷ declare 30 (codes "K_2") (of 3) ∷ declare 30 (codes "M") (of 4) ∷ declare 30 (codes "L") (of 2) ∷ [];
  body = one 32 (call (codes "Q") (more (v (codes "K")) (more (v (codes "K_2")) (more (v (codes "M")) (more (v (codes "L")) none)))));
}

abbrev pub lowered_last : Procedure
lowered_last = record last.unit {
  dummies = codes "A" ∷ codes "U" ∷ codes "L" ∷ codes "I" ∷ [];
  declarations = declare 41 (codes "U") (of 3) ∷ declare 42 (codes "L") (of 4) ∷ declare 42 (codes "I") (of 2) ∷ [];
}

abbrev pub WorkedRules : Type 0
WorkedRules = (layout_refusal whole ≡ None) × (lowered_program whole ≡ (lowered_declaring ∷ lowered_alone ∷ lowered_passing ∷ lowered_last ∷ []))

-- ---- layouts

-- Q with other extents of its second member, or with a member less: refused at its statement
abbrev with_items : List Declaration → Shared
with_items items = record last { commons = common 42 (codes "B") items ∷ [] }

-- P with an extent of M that is a name: refused in P, at its last statement of the block
abbrev with_name : Shared
with_name = record declaring { unit = record declaring.unit { declarations = declare 2 (codes "M") (given (codes "X") ∷ []) ∷ [] } }

abbrev pub WorkedLayouts : Type 0
WorkedLayouts =
    (layout_refusal (declaring ∷ alone ∷ passing ∷ with_items (declare 42 (codes "U") [] ∷ declare 42 (codes "L") (of 5) ∷ declare 42 (codes "I") (of 2) ∷ []) ∷ []) ≡ Some (fault 26 42))
    × ((layout_refusal (declaring ∷ alone ∷ passing ∷ with_items (declare 42 (codes "U") [] ∷ declare 42 (codes "L") (of 4) ∷ []) ∷ []) ≡ Some (fault 26 42))
    × (layout_refusal (with_name ∷ alone ∷ passing ∷ last ∷ []) ≡ Some (fault 26 5)))
