-- Worked programs: where names stand in statements, and what is refused of units, names and calls.
use Rattle.std.specs.Prelude.{◌≡◌, ℕ, List, [], ◌∷◌, map, length, true, false, Some, None, codes}
use Rattle.adj_tree.specs.Code.{plain, neg, bin, pow, power_of, abs, plus, times, none, compare, is_less, negation, conjunction, disjunction, push_word, pop_word, push_array, pop_array, push_control, pop_control, zero_array, begin_reversal, count_actions, give_action, end_reversal, with_count, count_from, Act, assign, choose, loop, during, runtime, Code, stop, step, given, Procedure}
use Rattle.def_names.specs.Statements.{statements}
use Rattle.def_names.specs.Standing.{Standing, in_act}
use Rattle.def_names.specs.Variables.{Name, variables}
use Rattle.def_names.specs.Fresh.{candidate, fresh}
use Rattle.def_names.specs.Reserved.{runtime_names, reserved, is_runtime, is_reserved}
use Rattle.def_names.specs.Numbering.{all_statements, statement_count, width, point_before, point_after, point_inside, entry_point, end_point, point_count, node, node_count, is_small}
use Rattle.law_names.specs.Builders.{A, B, G, H, I, J, K, M, N, P, X, Y, num, of, at_place, one_more, listed, gets, calling, thrice, only, lines, integer, array, subroutine}

-- ---- where names stand

-- a name with so many subscripts, and as a whole
abbrev pub with_subscripts : ℕ → Name → Standing
with_subscripts n x = record { name = x; subscripts = Some n }

abbrev pub as_whole : Name → Standing
as_whole x = record { name = x; subscripts = None }

-- A(I,1) = -B + X(J)**2 * ABS(K)**(M)
abbrev pub rich_assignment : Act
rich_assignment =
    assign (plain A) (listed (of I ∷ num 1 ∷ []))
    (bin plus (neg (of B)) (bin times (pow (at_place X (of J)) 2) (power_of (abs (of K)) (of M))))

abbrev pub InAssignment : Type 0
InAssignment = in_act rich_assignment ≡ with_subscripts 2 A ∷ with_subscripts 0 I ∷ with_subscripts 0 B ∷ with_subscripts 1 X ∷ with_subscripts 0 J ∷ with_subscripts 0 K ∷ with_subscripts 0 M ∷ []

-- .NOT. A.LT.B .AND. (I.LT.J .OR. K.LT.M), as the condition of an IF and of a DO WHILE; what stands in them isn't looked at here
abbrev pub rich_test : Act
rich_test = choose (conjunction (negation (compare is_less (of A) (of B))) (disjunction (compare is_less (of I) (of J)) (compare is_less (of K) (of M)))) (only 1 (gets X (num 1))) (only 2 (gets Y (num 1)))

abbrev pub rich_during : Act
rich_during = during (conjunction (negation (compare is_less (of A) (of B))) (disjunction (compare is_less (of I) (of J)) (compare is_less (of K) (of M)))) (only 1 (gets X (num 1)))

abbrev pub six : List Standing
six = with_subscripts 0 A ∷ with_subscripts 0 B ∷ with_subscripts 0 I ∷ with_subscripts 0 J ∷ with_subscripts 0 K ∷ with_subscripts 0 M ∷ []

abbrev pub InTests : Type 0
InTests = (in_act rich_test ≡ six) × (in_act rich_during ≡ six)

-- the number of snapshots stands before the DO
abbrev pub rich_loop : Act
rich_loop = loop (plain I) (of J) (of K) (of M) (only 1 (gets X (num 1))) (count_from (plain N))

abbrev pub counted_loop : Act
counted_loop = loop (plain I) (of J) (of K) (of M) stop (with_count 3)

abbrev pub InLoops : Type 0
InLoops =
    (in_act rich_loop ≡ with_subscripts 0 N ∷ with_subscripts 0 I ∷ with_subscripts 0 J ∷ with_subscripts 0 K ∷ with_subscripts 0 M ∷ [])
    × (in_act counted_loop ≡ with_subscripts 0 I ∷ with_subscripts 0 J ∷ with_subscripts 0 K ∷ with_subscripts 0 M ∷ [])

-- CALL G(A, X(I), -B, J+1, K**2, K**M, ABS(N), 3): a name alone stands as a whole
abbrev pub rich_call : Act
rich_call = calling G (of A ∷ at_place X (of I) ∷ neg (of B) ∷ one_more J ∷ pow (of K) 2 ∷ power_of (of K) (of M) ∷ abs (of N) ∷ num 3 ∷ [])

abbrev pub InCall : Type 0
InCall = in_act rich_call ≡ as_whole A ∷ with_subscripts 1 X ∷ with_subscripts 0 I ∷ with_subscripts 0 B ∷ with_subscripts 0 J ∷ with_subscripts 0 K ∷ with_subscripts 0 K ∷ with_subscripts 0 M ∷ with_subscripts 0 N ∷ []

-- calls of the runtime
abbrev pub InRuntime : Type 0
InRuntime =
    (in_act (runtime (push_word (plain A) (listed (of I ∷ [])))) ≡ with_subscripts 1 A ∷ with_subscripts 0 I ∷ [])
    × (in_act (runtime (pop_word (plain A) none)) ≡ with_subscripts 0 A ∷ [])
    × (in_act (runtime (push_array (plain A))) ≡ as_whole A ∷ [])
    × (in_act (runtime (pop_array (plain A))) ≡ as_whole A ∷ [])
    × (in_act (runtime (zero_array (plain A))) ≡ as_whole A ∷ [])
    × (in_act (runtime (push_control (of A))) ≡ with_subscripts 0 A ∷ [])
    × (in_act (runtime (pop_control (plain A))) ≡ with_subscripts 0 A ∷ [])
    × (in_act (runtime (begin_reversal (of A) (of B))) ≡ with_subscripts 0 A ∷ with_subscripts 0 B ∷ [])
    × (in_act (runtime (count_actions (of A) (of B) (plain I))) ≡ with_subscripts 0 A ∷ with_subscripts 0 B ∷ with_subscripts 0 I ∷ [])
    × (in_act (runtime (give_action (of A) (of B) (of I) (plain J) (plain K) (plain M))) ≡ six)
    × (in_act (runtime end_reversal) ≡ [])

-- statements at any depth, an outer one before those in it
abbrev pub nested : Code
nested = step 1 (thrice I (step 2 (choose (compare is_less (of I) (of J)) (only 3 (gets K (num 1))) (only 4 (during (compare is_less (of I) (of J)) (only 5 (gets M (num 1)))))) stop)) (only 6 (calling G []))

abbrev pub AtAnyDepth : Type 0
AtAnyDepth = map (λ s. s.0) (statements nested) ≡ 1 ∷ 2 ∷ 3 ∷ 4 ∷ 5 ∷ 6 ∷ []

-- ---- variables

-- SUBROUTINE P(Y,N), INTEGER A(N),Y, J=I+N, I=K, K=A(M)
abbrev pub ordered : Procedure
ordered = subroutine 1 P (Y ∷ N ∷ []) (array 2 A (given N ∷ []) ∷ integer 2 Y ∷ []) (lines 3 (gets J (bin plus (of I) (of N)) ∷ gets I (of K) ∷ gets K (at_place A (of M)) ∷ []))

-- the dummies, the declared local, and the implicit locals as they appear: a target before what stands right of it
abbrev pub VariablesInOrder : Type 0
VariablesInOrder = variables ordered ≡ Y ∷ N ∷ A ∷ J ∷ I ∷ K ∷ M ∷ []

-- ---- reserved names

abbrev pub EachReserved : Type 0
EachReserved =
    (reserved ≡ codes "ABS" ∷ codes "IABS" ∷ codes "MAX" ∷ codes "MAX0" ∷ codes "MIN" ∷ codes "MIN0" ∷ codes "MOD" ∷ runtime_names)
    × (is_reserved (codes "IABS") ≡ true) × (is_reserved (codes "ADACT") ≡ true) × (is_reserved (codes "PUSHCONTROL1B") ≡ true)
    × (is_reserved (codes "ADB") ≡ false) × (is_reserved (codes "MAX1") ≡ false)
    × (is_runtime (codes "POPINTEGER8ARRAY") ≡ true) × (is_runtime (codes "ADZERO8") ≡ true) × (is_runtime (codes "POPCONTROL1B") ≡ true)
    × (is_runtime (codes "ADBEG") ≡ true) × (is_runtime (codes "ADEND") ≡ true) × (is_runtime (codes "ADACTN") ≡ true)
    × (is_runtime (codes "PUSHINTEGER8") ≡ true) × (is_runtime (codes "POPINTEGER8") ≡ true) × (is_runtime (codes "PUSHINTEGER8ARRAY") ≡ true)
    × (is_runtime (codes "MAX") ≡ false)

-- ---- fresh names

abbrev pub FreshNames : Type 0
FreshNames =
    (fresh (codes "XB") [] ≡ codes "XB")
    × (fresh (codes "XB") (codes "XB" ∷ codes "XB_2" ∷ []) ≡ codes "XB_1")
    × (fresh (codes "XB") (codes "XB_1" ∷ codes "XB" ∷ []) ≡ codes "XB_2")
    × (candidate (codes "P_B") 120 ≡ codes "P_B_120")

-- ---- numbers of statements, points and nodes

-- a unit of six statements and two of one, of five variables at most
abbrev pub three_units : List Procedure
three_units = subroutine 1 P (N ∷ []) [] nested ∷ subroutine 11 G (I ∷ []) [] (only 12 (gets I (num 1))) ∷ subroutine 14 H [] [] (only 15 (gets J (of K))) ∷ []

abbrev pub Numbers : Type 0
Numbers =
    (map (λ s. s.0) (all_statements three_units) ≡ 1 ∷ 2 ∷ 3 ∷ 4 ∷ 5 ∷ 6 ∷ 12 ∷ 15 ∷ [])
    × (statement_count three_units ≡ 8)
    × (map (λ u. length (variables u)) three_units ≡ 5 ∷ 1 ∷ 2 ∷ [])
    × (width three_units ≡ 5)
    × (map point_before (0 ∷ 1 ∷ 7 ∷ []) ≡ 0 ∷ 3 ∷ 21 ∷ [])
    × (map point_after (0 ∷ 1 ∷ 7 ∷ []) ≡ 1 ∷ 4 ∷ 22 ∷ [])
    × (map point_inside (0 ∷ 1 ∷ 7 ∷ []) ≡ 2 ∷ 5 ∷ 23 ∷ [])
    × (map (entry_point three_units) (0 ∷ 1 ∷ 2 ∷ []) ≡ 24 ∷ 26 ∷ 28 ∷ [])
    × (map (end_point three_units) (0 ∷ 1 ∷ 2 ∷ []) ≡ 25 ∷ 27 ∷ 29 ∷ [])
    × (point_count three_units ≡ 30)
    × (node three_units 3 2 ≡ 17)
    × (node_count three_units ≡ 150)
    × (is_small three_units ≡ true)
