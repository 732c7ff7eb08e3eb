-- Worked programs: what is refused of calls, chains and writes, and of heads.
use Rattle.std.specs.Prelude.{◌≡◌, pos, ℕ, zero, suc, ◌+◌, ◌*◌, List, [], ◌∷◌, ◌++◌, map, true, false, Some, None}
use Rattle.adj_tree.specs.Code.{step, lit, power_of, abs, end_reversal, Term, plain, neg, pow, none, compare, is_less, push_word, pop_word, push_array, pop_array, zero_array, with_count, count_from, Act, choose, loop, during, runtime, Code, stop, given, Procedure}
use Rattle.def_names.specs.Variables.{Name}
use Rattle.law_names.specs.Builders.{listed, A, B, G, H, I, J, K, M, N, P, X, Y, num, of, at_place, one_more, gets, gets_at, calling, thrice, if_less, only, lines, array, size, subroutine, Refuses, Accepts, Refused, Accepted}
use Rattle.law_names.specs.NameSamples.{numbered, empty_unit, of_i, with_arrays}
use Rattle.def_names.specs.Fault.{Rules, source_rules, run_rules, fault, passed}
use Rattle.def_names.specs.Calls.{leads, calls, chain, chain_within, chain_from}
use Rattle.def_names.specs.ChainFaults.{begins_chain, chain_faults}
use Rattle.def_names.specs.Check.{first_fault}
use Rattle.def_names.specs.HeadFaults.{first_head_fault, head_of}

-- ---- 14 and 15: calls

-- SUBROUTINE P(I) with A(3) and B(3,4), one CALL at line 3, and then a unit from line 9 on
abbrev pub calls_one : List Term → Procedure → List Procedure
calls_one es u = with_arrays (calling G es ∷ []) ++ (u ∷ [])

-- units that take a scalar, a list and a table, which they only read
abbrev pub takes_scalar : Procedure
takes_scalar = subroutine 9 G (J ∷ []) [] stop

abbrev pub takes_list : Procedure
takes_list = subroutine 9 G (X ∷ []) (array 10 X (size 3 ∷ []) ∷ []) stop

abbrev pub takes_table : Procedure
takes_table = subroutine 9 G (X ∷ []) (array 10 X (size 3 ∷ size 4 ∷ []) ∷ []) stop

abbrev pub Actuals : Type 0
Actuals =
    Refused (of_i [] (calling G [] ∷ [])) 14 3
    × Refused (of_i [] (if_less (of I) (num 1) (only 4 (calling G [])) ∷ [])) 14 4
    × Accepted (calls_one (of I ∷ []) takes_scalar)
    × Refused (calls_one [] takes_scalar) 15 3
    × Refused (calls_one (of I ∷ of K ∷ []) takes_scalar) 15 3
    × Accepted (calls_one (at_place A (num 1) ∷ []) takes_scalar)
    × Accepted (calls_one (neg (of I) ∷ []) takes_scalar)
    × Refused (calls_one (of A ∷ []) takes_scalar) 15 3
    × Accepted (calls_one (of A ∷ []) takes_list)
    × Refused (calls_one (of B ∷ []) takes_list) 15 3
    × Refused (calls_one (of I ∷ []) takes_list) 15 3
    × Refused (calls_one (at_place A (num 1) ∷ []) takes_list) 15 3
    × Refused (calls_one (one_more I ∷ []) takes_list) 15 3
    × Refused (calls_one (num 1 ∷ []) takes_list) 15 3
    × Accepted (calls_one (of B ∷ []) takes_table)
    × Refused (calls_one (of A ∷ []) takes_table) 15 3

-- each kind of expression for a list, and for a scalar
abbrev pub expressions : List Term
expressions = lit (pos 1) ∷ neg (of I) ∷ one_more I ∷ pow (of I) 2 ∷ power_of (of I) (of K) ∷ abs (of I) ∷ []

abbrev pub NoArrays : Type 0
NoArrays =
    (map (λ e. first_fault source_rules (calls_one (e ∷ []) takes_list)) expressions ≡ map (λ e. Some (fault 15 3)) expressions)
    × (map (λ e. first_fault source_rules (calls_one (e ∷ []) takes_scalar)) expressions ≡ map (λ e. None) expressions)

-- a runtime call takes an array where it says so
abbrev pub ArrayArguments : Type 0
ArrayArguments =
    Accepts run_rules (with_arrays (runtime (push_array (plain A)) ∷ runtime (pop_array (plain B)) ∷ runtime (zero_array (plain A)) ∷ []))
    × Refuses run_rules (with_arrays (runtime (push_array (plain I)) ∷ [])) 15 3
    × Refuses run_rules (with_arrays (runtime (pop_array (plain I)) ∷ [])) 15 3
    × Refuses run_rules (with_arrays (runtime (zero_array (plain I)) ∷ [])) 15 3

-- ---- 16: cycles

-- a unit without dummies that calls these, from a line on
abbrev pub caller : ℕ → Name → List Name → Procedure
caller line x names = subroutine line x [] [] (lines (line + 1) (map (λ n. calling n []) names))

abbrev pub Cycles : Type 0
Cycles =
    -- of one unit, of two, and of three
    Refused (caller 1 P (P ∷ []) ∷ []) 16 2
    × Refused (caller 1 P (G ∷ []) ∷ caller 5 G (P ∷ []) ∷ []) 16 2
    × Refused (caller 1 P (H ∷ []) ∷ caller 5 G (P ∷ []) ∷ caller 9 H (G ∷ []) ∷ []) 16 2
    -- a CALL that leads to a cycle doesn't lie on it
    × Refused (caller 1 P (G ∷ []) ∷ caller 5 G (A ∷ H ∷ []) ∷ caller 9 H (A ∷ G ∷ []) ∷ empty_unit 13 A ∷ []) 16 7
    × Accepted (caller 1 P (G ∷ H ∷ G ∷ []) ∷ caller 6 G (H ∷ []) ∷ empty_unit 9 H ∷ [])
    -- in an IF, a DO and a DO WHILE
    × Refused (subroutine 1 P [] [] (only 2 (choose (compare is_less (of I) (num 1)) stop (only 3 (thrice I (only 4 (during (compare is_less (of I) (num 1)) (only 5 (calling P [])))))))) ∷ []) 16 5

-- ---- 21: chains

-- at most three units in a chain
abbrev pub three : Rules
three = record source_rules { chain = 3 }

-- a DO, marked
abbrev pub marked : Name → Code → Act
marked x body = loop (plain x) (num 1) (num 3) (num 1) body (with_count 2)

abbrev pub Chains : Type 0
Chains =
    Accepts three (caller 1 P (G ∷ []) ∷ caller 5 G (H ∷ []) ∷ empty_unit 9 H ∷ [])
    × (first_fault three (caller 1 P (B ∷ G ∷ []) ∷ caller 5 G (H ∷ []) ∷ caller 9 H (B ∷ []) ∷ empty_unit 13 B ∷ []) ≡ Some (passed 3 3))
    -- the longest chain counts, and where it begins: in another unit, too
    × (first_fault three (caller 1 B [] ∷ caller 3 G (H ∷ []) ∷ caller 9 H (A ∷ []) ∷ caller 13 A (B ∷ []) ∷ []) ≡ Some (passed 3 4))
    -- a marked DO counts as one more, an unmarked one doesn't
    × Accepts three (subroutine 1 P [] [] (only 2 (marked I (only 3 (calling G [])))) ∷ empty_unit 9 G ∷ [])
    × (first_fault three (subroutine 1 P [] [] (only 2 (marked I (only 3 (calling G [])))) ∷ caller 5 G (H ∷ []) ∷ empty_unit 9 H ∷ []) ≡ Some (passed 3 2))
    × Accepts three (subroutine 1 P [] [] (only 2 (thrice I (only 3 (calling G [])))) ∷ caller 5 G (H ∷ []) ∷ empty_unit 9 H ∷ [])
    × (first_fault three (subroutine 1 P [] [] (only 2 (marked I (only 3 (marked J (only 4 (loop (plain K) (num 1) (num 3) (num 1) stop (count_from (plain M)))))))) ∷ []) ≡ Some (passed 3 2))
    -- the unit of a chain that begins in a marked DO is that DO
    × (first_fault three (subroutine 1 P [] [] (only 2 (thrice I (only 3 (choose (compare is_less (of I) (num 1)) stop (only 4 (during (compare is_less (of I) (num 1)) (only 5 (marked K (only 6 (calling G [])))))))))) ∷ caller 7 G (H ∷ []) ∷ empty_unit 9 H ∷ []) ≡ Some (passed 3 5))
    -- a cycle comes first, wherever it stands
    × Refuses three (caller 1 P (G ∷ []) ∷ caller 5 G (H ∷ []) ∷ caller 9 H (B ∷ []) ∷ empty_unit 13 B ∷ caller 15 M (M ∷ []) ∷ []) 16 16
    × Accepts run_rules (caller 1 P (G ∷ []) ∷ caller 5 G (H ∷ []) ∷ caller 9 H (B ∷ []) ∷ empty_unit 13 B ∷ [])

-- n units of the names U and a number, from the k-th on: SUBROUTINE Uk(I), CALL of the next with I, END; the last calls none
abbrev pub in_a_row : ℕ → ℕ → List Procedure
in_a_row zero k = []
in_a_row (suc zero) k = subroutine (3 * k + 1) (numbered k) (I ∷ []) [] stop ∷ []
in_a_row (suc (suc n)) k = subroutine (3 * k + 1) (numbered k) (I ∷ []) [] (only (3 * k + 2) (calling (numbered (suc k)) (of I ∷ []))) ∷ in_a_row (suc n) (suc k)

abbrev pub LongChains : Type 0
LongChains =
    (first_fault source_rules (in_a_row 41 0) ≡ Some (passed 40 2))
    × (chain_faults source_rules (in_a_row 40 0) ≡ [])
    × (first_fault run_rules (in_a_row 81 0) ≡ Some (passed 80 2))
    × (chain_faults run_rules (in_a_row 80 0) ≡ [])

-- ---- 11: variables of a DO

-- a unit G(J) that writes its dummy
abbrev pub writes_dummy : Procedure
writes_dummy = subroutine 9 G (J ∷ []) [] (only 10 (gets J (num 1)))

abbrev pub WrittenVariables : Type 0
WrittenVariables =
    Refused (of_i [] (thrice I (only 4 (gets I (num 2))) ∷ [])) 11 4
    × Accepted (of_i [] (thrice K (only 4 (gets I (num 2))) ∷ gets K (num 1) ∷ []))
    × Refused (of_i [] (thrice I (only 4 (thrice K (only 5 (thrice I stop)))) ∷ [])) 11 5
    × Refused (of_i [] (thrice I (only 4 (choose (compare is_less (of I) (num 1)) (only 5 (gets K (num 1))) (only 6 (gets I (num 2))))) ∷ [])) 11 6
    × Refused (of_i [] (thrice I (only 4 (during (compare is_less (of I) (num 1)) (only 5 (gets I (num 2))))) ∷ [])) 11 5
    × Refused (of_i [] (thrice I (only 4 (calling G (of I ∷ []))) ∷ []) ++ (writes_dummy ∷ [])) 11 4
    × Accepted (of_i [] (thrice I (only 4 (calling G (of I ∷ []))) ∷ []) ++ (takes_scalar ∷ []))
    × Refuses run_rules (of_i [] (thrice I (only 4 (runtime (pop_word (plain I) none))) ∷ [])) 11 4
    × Accepts run_rules (of_i [] (thrice I (only 4 (runtime (push_word (plain I) none))) ∷ []))
    -- a DO within an IF, a DO WHILE and a DO
    × Refused (of_i [] (if_less (of I) (num 1) (only 4 (during (compare is_less (of I) (num 1)) (only 5 (thrice J (only 6 (thrice K (only 7 (gets K (num 1))))))))) ∷ [])) 11 7

-- ---- 13: extents

-- SUBROUTINE P(N,X) with X(N) and one statement
abbrev pub with_extent : Act → List Procedure → List Procedure
with_extent a others = subroutine 1 P (N ∷ X ∷ []) (array 2 X (given N ∷ []) ∷ []) (only 3 (if_less (of N) (num 1) (only 4 a))) ∷ others

abbrev pub WrittenExtents : Type 0
WrittenExtents =
    Refused (with_extent (gets N (num 1)) []) 13 4
    × Refused (with_extent (thrice N stop) []) 13 4
    × Accepted (with_extent (gets_at X (num 1) (num 1)) [])
    × Accepted (with_extent (calling G (of N ∷ [])) (takes_scalar ∷ []))
    -- through two calls
    × Refused (with_extent (calling H (of N ∷ [])) (subroutine 6 H (K ∷ []) [] (only 7 (calling G (of K ∷ []))) ∷ writes_dummy ∷ [])) 13 4

-- ---- 17: one variable as two actuals

-- a unit of two lists that writes the first, one that writes the second, and one that writes none
abbrev pub two_lists : Code → Procedure
two_lists body = subroutine 9 G (X ∷ Y ∷ []) (array 10 X (size 3 ∷ []) ∷ array 10 Y (size 3 ∷ []) ∷ []) body

-- two scalars
abbrev pub two_scalars : Code → Procedure
two_scalars body = subroutine 9 G (J ∷ K ∷ []) [] body

-- a list and a scalar
abbrev pub list_and_scalar : Code → Procedure
list_and_scalar body = subroutine 9 G (X ∷ K ∷ []) (array 10 X (size 3 ∷ []) ∷ []) body

abbrev pub SharedVariables : Type 0
SharedVariables =
    Refused (calls_one (of A ∷ of A ∷ []) (two_lists (only 11 (gets_at X (num 1) (num 2))))) 17 3
    × Refused (calls_one (of A ∷ of A ∷ []) (two_lists (only 11 (gets_at Y (num 1) (num 2))))) 17 3
    -- two whole arrays, even where none is written
    × Refused (calls_one (of A ∷ of A ∷ []) (two_lists stop)) 17 3
    -- two scalars, and two elements
    × Accepted (calls_one (of I ∷ of I ∷ []) (two_scalars stop))
    × Refused (calls_one (of I ∷ of I ∷ []) (two_scalars (only 11 (gets J (num 1))))) 17 3
    × Refused (calls_one (of I ∷ of I ∷ []) (two_scalars (only 11 (gets K (num 1))))) 17 3
    × Accepted (calls_one (of I ∷ of M ∷ []) (two_scalars (only 11 (gets K (num 1)))))
    × Accepted (calls_one (at_place A (num 1) ∷ at_place A (num 2) ∷ []) (two_scalars stop))
    × Refused (calls_one (at_place A (num 1) ∷ at_place A (num 2) ∷ []) (two_scalars (only 11 (gets K (num 1))))) 17 3
    -- an array and an element of it
    × Accepted (calls_one (of A ∷ at_place A (num 1) ∷ []) (list_and_scalar stop))
    × Refused (calls_one (of A ∷ at_place A (num 1) ∷ []) (list_and_scalar (only 11 (gets_at X (num 1) (num 1))))) 17 3
    × Refused (calls_one (of A ∷ at_place A (num 1) ∷ []) (list_and_scalar (only 11 (gets K (num 1))))) 17 3
    -- what stands in an expression or in a subscript isn't named by the actual
    × Accepted (calls_one (of I ∷ one_more I ∷ []) (two_scalars (only 11 (gets J (num 1)))))
    × Accepted (calls_one (of I ∷ at_place A (of I) ∷ []) (two_scalars (only 11 (gets J (num 1)))))
    -- two that don't stand side by side
    × Refused (calls_one (of M ∷ of I ∷ num 1 ∷ of I ∷ []) (subroutine 9 G (J ∷ K ∷ M ∷ N ∷ []) [] (only 11 (gets N (num 1))))) 17 3

-- ---- 24: values for dummies that are written

abbrev pub WrittenValues : Type 0
WrittenValues =
    Refused (calls_one (one_more I ∷ []) writes_dummy) 24 3
    × Refused (calls_one (num 1 ∷ []) writes_dummy) 24 3
    × Refused (calls_one (pow (of I) 1 ∷ []) writes_dummy) 24 3
    × Accepted (calls_one (of I ∷ []) writes_dummy)
    × Accepted (calls_one (at_place A (one_more I) ∷ []) writes_dummy)
    × Accepted (calls_one (one_more I ∷ []) takes_scalar)
    × Refused (calls_one (of M ∷ one_more I ∷ []) (two_scalars (only 11 (gets K (num 1))))) 24 3
    × Accepted (calls_one (of M ∷ one_more I ∷ []) (two_scalars (only 11 (gets J (num 1)))))

-- each kind of expression
abbrev pub NoPlaces : Type 0
NoPlaces = map (λ e. first_fault source_rules (calls_one (e ∷ []) writes_dummy)) expressions ≡ map (λ e. Some (fault 24 3)) expressions

-- ---- a program with every kind of statement

-- SUBROUTINE P(N,X), INTEGER X(N), and a DO whose number of snapshots is K, round an IF, a DO WHILE and a CALL
abbrev pub with_all_kinds : List Procedure
with_all_kinds =
    subroutine 1 P (N ∷ X ∷ []) (array 2 X (given N ∷ []) ∷ [])
    (step 3 (loop (plain I) (num 1) (of N) (num 1)
    (step 4 (choose (compare is_less (at_place X (of I)) (num 1)) (only 5 (gets_at X (of I) (num 2))) (only 6 (during (compare is_less (of J) (num 3)) (only 7 (gets J (one_more J))))))
    (only 8 (calling G (of X ∷ of J ∷ one_more I ∷ [])))) (count_from (plain K))) stop)
    ∷ subroutine 10 G (X ∷ K ∷ M ∷ []) (array 11 X (size 3 ∷ []) ∷ []) (lines 12 (gets K (at_place X (of M)) ∷ []))
    ∷ []

abbrev pub AllKinds : Type 0
AllKinds = Accepted with_all_kinds × Accepts run_rules with_all_kinds

-- ---- ends of chains, and what begins none

abbrev pub Ends : Type 0
Ends =
    (leads [] 0 G G ≡ true) × (leads (caller 1 P (G ∷ []) ∷ []) 0 P G ≡ false)
    × (chain_from [] G ≡ 0) × (chain_within (empty_unit 1 G ∷ []) 0 G ≡ 0) × (chain_from (empty_unit 1 G ∷ []) H ≡ 0)
    × (chain (λ n. 0) (lines 1 (gets I (num 1) ∷ runtime end_reversal ∷ [])) ≡ 0)
    × (begins_chain (gets I (num 1)) ≡ false) × (begins_chain (runtime end_reversal) ≡ false) × (begins_chain (if_less (of I) (num 1) stop) ≡ false)
    × (begins_chain (during (compare is_less (of I) (num 1)) stop) ≡ false)
    × (calls (subroutine 1 P [] [] (lines 2 (gets I (num 1) ∷ calling G (of I ∷ []) ∷ calling H [] ∷ []))) ≡ (3, (G, listed (of I ∷ []))) ∷ (4, (H, none)) ∷ [])

-- ---- the order of passes

-- each program has a fault of the next pass before that of an earlier one
abbrev pub Passes : Type 0
Passes =
    Refused (subroutine 1 P (A ∷ []) [] stop ∷ empty_unit 3 P ∷ []) 19 3
    × Refused (subroutine 1 P [] [] (lines 2 (calling G [] ∷ gets I (of A) ∷ [])) ∷ []) 7 3
    × Refused (caller 1 P (P ∷ G ∷ []) ∷ []) 14 3
    × Refused (subroutine 1 P [] [] (lines 2 (thrice I (only 3 (gets I (num 1))) ∷ [])) ∷ caller 5 G (G ∷ []) ∷ []) 16 6

-- ---- 22 and 23: the head

abbrev pub head_sample : List Procedure
head_sample = empty_unit 1 P ∷ subroutine 3 G (I ∷ J ∷ K ∷ []) [] stop ∷ []

abbrev pub Heads : Type 0
Heads =
    (first_head_fault head_sample G (I ∷ []) (J ∷ I ∷ []) ≡ None)
    × (head_of head_sample G (K ∷ I ∷ []) (J ∷ []) ≡ record { unit = 1; vars = true ∷ false ∷ true ∷ []; outvars = false ∷ true ∷ false ∷ [] })
    × (first_head_fault head_sample H [] [] ≡ Some (fault 22 0))
    × (first_head_fault [] P [] [] ≡ Some (fault 22 0))
    × (first_head_fault head_sample G (I ∷ M ∷ []) (J ∷ []) ≡ Some (fault 23 0))
    × (first_head_fault head_sample G (I ∷ []) (J ∷ M ∷ []) ≡ Some (fault 23 0))
    × (first_head_fault head_sample G (I ∷ J ∷ I ∷ []) (J ∷ []) ≡ Some (fault 23 0))
    × (first_head_fault head_sample G (I ∷ []) (J ∷ J ∷ []) ≡ Some (fault 23 0))
    × (first_head_fault head_sample P (I ∷ []) [] ≡ Some (fault 23 0))
