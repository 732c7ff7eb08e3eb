-- Worked programs: what is refused of units and of the names in them.
use Rattle.std.specs.Prelude.{◌≡◌, ℕ, zero, suc, List, [], ◌∷◌, ◌++◌, map, false, true, Some, None, codes}
use Rattle.adj_tree.specs.Code.{shadow, helper, work, Term, plain, elem, none, more, compare, is_less, push_word, pop_control, push_control, begin_reversal, count_actions, give_action, count_from, Act, loop, during, runtime, stop, given, Declaration, Procedure}
use Rattle.def_names.specs.Standing.{standing}
use Rattle.def_names.specs.Variables.{Name, is_integer_name}
use Rattle.def_names.specs.CallFaults.{variable_rank}
use Rattle.def_names.specs.Fresh.{digits}
use Rattle.law_names.specs.Builders.{A, B, G, H, I, J, K, M, N, P, X, num, of, at_place, one_more, listed, gets, gets_at, calling, thrice, if_less, only, lines, integer, array, size, subroutine, Refuses, Accepts, Refused, Accepted}
use Rattle.def_names.specs.Fault.{Rules, source_rules, run_rules, passed, first_of}
use Rattle.def_names.specs.NameFaults.{too_many_variables}
use Rattle.def_names.specs.Check.{first_fault}

-- the letter U and a number
abbrev pub numbered : ℕ → Name
numbered k = codes "U" ++ digits k

-- ---- 18 and 19: names of units

abbrev pub empty_unit : ℕ → Name → Procedure
empty_unit line x = subroutine line x [] [] stop

abbrev pub UnitNames : Type 0
UnitNames =
    Accepted (empty_unit 1 P ∷ empty_unit 3 G ∷ [])
    × Refused (empty_unit 1 P ∷ empty_unit 3 (codes "MAX0") ∷ []) 18 3
    × Refuses run_rules (empty_unit 1 P ∷ empty_unit 3 (codes "ADACTN") ∷ []) 18 3
    × Refused (empty_unit 1 P ∷ empty_unit 3 G ∷ empty_unit 5 P ∷ []) 19 5
    -- the earlier line, and at one line the lower code
    × Refused (empty_unit 1 P ∷ empty_unit 3 P ∷ empty_unit 5 (codes "MOD") ∷ []) 19 3
    × Refused (empty_unit 1 (codes "MOD") ∷ empty_unit 3 (codes "MOD") ∷ []) 18 1
    × Refused (empty_unit 3 (codes "MOD") ∷ empty_unit 3 P ∷ empty_unit 3 P ∷ []) 18 3

-- ---- 7: names that aren't declared

-- SUBROUTINE P(I) with these declarations and statements, from line 3 on
abbrev pub of_i : List Declaration → List Act → List Procedure
of_i declarations acts = subroutine 1 P (I ∷ []) declarations (lines 3 acts) ∷ []

-- the same with IMPLICIT NONE
abbrev pub strict : List Declaration → List Act → List Procedure
strict declarations acts = record (subroutine 1 P (I ∷ []) declarations (lines 3 acts)) { is_none = true } ∷ []

abbrev pub UndeclaredNames : Type 0
UndeclaredNames =
    Refused (of_i [] (gets I (one_more A) ∷ [])) 7 3
    -- integers begin with I to N
    × Refused (of_i [] (gets I (of H) ∷ [])) 7 3
    × Accepted (of_i [] (gets I (of J) ∷ gets K (of N) ∷ []))
    × Refused (of_i [] (gets I (of (codes "O")) ∷ [])) 7 3
    -- a declared name may begin with any letter
    × Accepted (of_i (integer 2 A ∷ []) (gets I (of A) ∷ []))
    -- a dummy stands in its SUBROUTINE
    × Refused (subroutine 1 P (A ∷ []) [] (only 2 (gets A (num 1))) ∷ []) 7 1
    × Accepted (subroutine 1 P (A ∷ []) (integer 2 A ∷ []) (only 3 (gets A (num 1))) ∷ [])
    -- and a name of extents in its declaration
    × Refused (of_i (array 2 J (given A ∷ []) ∷ []) []) 7 2
    -- under IMPLICIT NONE each name is declared, the variable of a DO too
    × Refused (strict [] []) 7 1
    × Accepted (strict (integer 2 I ∷ []) (gets I (num 1) ∷ []))
    × Refused (strict (integer 2 I ∷ []) (thrice J stop ∷ [])) 7 3
    × Refused (strict (integer 2 I ∷ []) (loop (plain I) (num 1) (num 2) (num 1) stop (count_from (plain K)) ∷ [])) 7 3
    × Refused (strict (integer 2 I ∷ array 2 J (given K ∷ []) ∷ []) []) 7 2

-- first letters, and variables that aren't of a text
abbrev pub Letters : Type 0
Letters =
    (is_integer_name [] ≡ false)
    × (map is_integer_name (H ∷ I ∷ J ∷ N ∷ codes "O" ∷ codes "_I" ∷ codes "KA" ∷ codes "AK" ∷ []) ≡ false ∷ true ∷ true ∷ true ∷ false ∷ false ∷ true ∷ false ∷ [])
    × (standing (Some 0) (shadow X) ≡ []) × (standing None (helper work 1) ≡ [])
    × (variable_rank (subroutine 1 P [] (array 2 X (size 3 ∷ []) ∷ []) stop) (plain X) ≡ 1)
    × (variable_rank (subroutine 1 P [] (array 2 X (size 3 ∷ []) ∷ []) stop) (shadow X) ≡ 0)
    × (variable_rank (subroutine 1 P [] (array 2 X (size 3 ∷ []) ∷ []) stop) (helper work 1) ≡ 0)

-- ---- 8: names that are declared twice

abbrev pub RepeatedNames : Type 0
RepeatedNames =
    Refused (of_i (integer 2 A ∷ integer 4 B ∷ integer 6 A ∷ []) []) 8 6
    × Refused (of_i (integer 2 A ∷ array 2 A (size 3 ∷ []) ∷ []) []) 8 2
    × Refused (subroutine 1 P (I ∷ J ∷ I ∷ []) [] stop ∷ []) 8 1
    × Accepted (subroutine 1 P (I ∷ J ∷ []) (integer 2 I ∷ []) stop ∷ [])

-- ---- 9: subscripts and extents

-- with A of rank 1 and B of rank 2
abbrev pub with_arrays : List Act → List Procedure
with_arrays acts = of_i (array 2 A (size 3 ∷ []) ∷ array 2 B (size 3 ∷ size 4 ∷ []) ∷ []) acts

abbrev pub at_two : Name → Term → Term → Term
at_two x e f = elem (plain x) (more e (more f none))

abbrev pub Subscripts : Type 0
Subscripts =
    Accepted (with_arrays (gets I (at_place A (num 1)) ∷ gets I (at_two B (num 1) (num 2)) ∷ gets_at A (num 1) (of I) ∷ []))
    × Refused (with_arrays (gets I (at_place J (num 1)) ∷ [])) 9 3
    × Refused (with_arrays (gets I (at_two A (num 1) (num 1)) ∷ [])) 9 3
    × Refused (with_arrays (gets I (at_place B (num 1)) ∷ [])) 9 3
    × Refused (with_arrays (gets I (of A) ∷ [])) 9 3
    × Refused (with_arrays (gets A (num 1) ∷ [])) 9 3
    × Refused (with_arrays (gets_at A (of B) (num 1) ∷ [])) 9 3
    × Refused (with_arrays (thrice A stop ∷ [])) 9 3
    × Refused (with_arrays (loop (plain I) (num 1) (num 2) (num 1) stop (count_from (plain A)) ∷ [])) 9 3
    × Refused (with_arrays (if_less (of A) (num 1) stop ∷ [])) 9 3
    × Refused (with_arrays (during (compare is_less (of A) (num 1)) stop ∷ [])) 9 3
    -- a part of an actual is a value, a whole actual isn't: here no unit takes it
    × Refused (with_arrays (calling G (one_more A ∷ []) ∷ [])) 9 3
    × Refused (with_arrays (calling G (of A ∷ []) ∷ [])) 14 3

-- ---- 12: extents

-- SUBROUTINE P(N,X) with X as declared here
abbrev pub sized : List Declaration → List Procedure
sized declarations = subroutine 1 P (N ∷ X ∷ []) declarations stop ∷ []

abbrev pub Extents : Type 0
Extents =
    Accepted (sized (array 2 X (given N ∷ size 3 ∷ []) ∷ []))
    × Refused (sized (array 2 X (size 3 ∷ size 0 ∷ []) ∷ [])) 12 2
    × Accepted (sized (array 2 X (size 1 ∷ []) ∷ []))
    × Accepted (sized (array 2 X (size 1048576 ∷ []) ∷ []))
    × Refused (sized (array 2 X (size 1048577 ∷ []) ∷ [])) 12 2
    × Accepted (sized (array 2 X (size 1024 ∷ size 1024 ∷ []) ∷ []))
    × Refused (sized (array 2 X (size 1024 ∷ size 1025 ∷ []) ∷ [])) 12 2
    × Refused (sized (array 2 X (given N ∷ size 1048577 ∷ []) ∷ [])) 12 2
    -- an extent is a scalar dummy
    × Refused (sized (integer 2 X ∷ array 3 A (size 3 ∷ given K ∷ []) ∷ [])) 12 3
    × Refused (sized (array 2 X (given N ∷ []) ∷ array 3 N (size 2 ∷ []) ∷ [])) 12 2
    × Refused (sized (integer 2 X ∷ integer 2 K ∷ array 3 A (given K ∷ []) ∷ [])) 12 3
    -- a local has none
    × Refused (sized (integer 2 X ∷ array 3 A (given N ∷ []) ∷ [])) 12 3
    × Refused (sized (integer 2 X ∷ array 3 A (size 3 ∷ given N ∷ []) ∷ [])) 12 3
    × Accepted (sized (integer 2 X ∷ array 3 A (size 3 ∷ size 4 ∷ []) ∷ []))

-- ---- 18: names that variables don't have, and runtime calls

abbrev pub ReservedVariables : Type 0
ReservedVariables =
    Refused (subroutine 1 P (codes "MOD" ∷ []) [] stop ∷ []) 18 1
    × Refused (of_i (integer 2 (codes "ABS") ∷ []) []) 18 2
    × Refused (of_i [] (gets I (of (codes "MIN")) ∷ [])) 18 3
    × Refused (of_i (integer 2 (codes "ADEND") ∷ []) []) 18 2
    -- a name that isn't an integer by its first letter has the lower code
    × Refused (of_i [] (gets (codes "ABS") (num 1) ∷ [])) 7 3
    -- a unit's own name, and that of another
    × Refused (subroutine 1 M [] [] (only 2 (gets M (num 1))) ∷ []) 18 2
    × Refused (subroutine 1 P (M ∷ []) [] stop ∷ empty_unit 3 M ∷ []) 18 1

-- a runtime call stands only where it is taken
abbrev pub RuntimeCalls : Type 0
RuntimeCalls =
    Refused (of_i [] (runtime (push_word (plain I) none) ∷ [])) 18 3
    × Accepts run_rules (of_i [] (runtime (push_word (plain I) none) ∷ []))
    × Refused (of_i [] (calling (codes "ADEND") (num 1 ∷ []) ∷ [])) 18 3
    × Refuses run_rules (of_i [] (calling (codes "ADEND") (num 1 ∷ []) ∷ [])) 15 3
    × Refused (of_i [] (if_less (of I) (num 3) (only 4 (runtime (push_word (plain I) none))) ∷ [])) 18 4
    -- where it is taken, its arguments are values unless they are arrays; where it isn't, an array is an actual as any
    × Refuses run_rules (with_arrays (runtime (push_word (plain A) none) ∷ [])) 9 3
    × Refused (with_arrays (runtime (push_word (plain A) none) ∷ [])) 18 3
    × Refused (with_arrays (runtime (push_word (plain A) (listed (of B ∷ []))) ∷ [])) 9 3
    × Refuses run_rules (with_arrays (runtime (push_control (of A)) ∷ [])) 9 3
    × Refused (with_arrays (runtime (push_control (of A)) ∷ [])) 18 3
    × Refused (with_arrays (runtime (push_control (one_more A)) ∷ [])) 9 3
    × Refuses run_rules (with_arrays (runtime (pop_control (plain A)) ∷ [])) 9 3
    × Refused (with_arrays (runtime (pop_control (plain A)) ∷ [])) 18 3
    × Refuses run_rules (with_arrays (runtime (begin_reversal (of A) (num 1)) ∷ [])) 9 3
    × Refused (with_arrays (runtime (begin_reversal (of A) (of A)) ∷ [])) 18 3
    × Refused (with_arrays (runtime (count_actions (of A) (of A) (plain A)) ∷ [])) 18 3
    × Refused (with_arrays (runtime (give_action (of A) (of A) (of A) (plain A) (plain A) (plain A)) ∷ [])) 18 3

-- ---- 21: the variables of a unit

-- at most two
abbrev pub two : Rules
two = record source_rules { variables = Some 2 }

abbrev pub TooManyVariables : Type 0
TooManyVariables =
    Accepts two (of_i (integer 2 I ∷ integer 2 J ∷ []) (gets J (of I) ∷ gets I (of J) ∷ []))
    × (first_fault two (of_i (integer 2 J ∷ []) (gets J (num 1) ∷ gets K (of J) ∷ gets M (num 1) ∷ [])) ≡ Some (passed 2 4))
    × (first_fault two (of_i [] (gets J (num 1) ∷ gets K (of J) ∷ [])) ≡ Some (passed 2 4))
    × (first_fault two (of_i (integer 2 A ∷ integer 3 B ∷ []) []) ≡ Some (passed 2 3))
    × (first_fault two (subroutine 1 P (I ∷ J ∷ K ∷ []) [] stop ∷ []) ≡ Some (passed 2 1))
    × Accepts run_rules (subroutine 1 P (I ∷ J ∷ K ∷ []) [] stop ∷ [])

-- so many declared variables, a line each
abbrev pub many : ℕ → ℕ → List Declaration
many zero line = []
many (suc n) line = integer line (numbered n) ∷ many n (suc line)

-- a unit may have 200, and where a text is run any number
abbrev pub ManyVariables : Type 0
ManyVariables =
    (first_of (too_many_variables source_rules (subroutine 1 P [] (many 201 2) stop)) ≡ Some (passed 200 202))
    × (too_many_variables source_rules (subroutine 1 P [] (many 200 2) stop) ≡ [])
    × (too_many_variables run_rules (subroutine 1 P [] (many 201 2) stop) ≡ [])
