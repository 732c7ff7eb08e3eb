-- What statements read, under other names, and padded.
use Rattle.std.specs.Prelude.{◌≡◌, ℕ, pos, true, false, List, [], ◌∷◌, codes}
use Rattle.adj_tree.specs.Code.{Var, plain, shadow, Term, lit, var, elem, neg, bin, plus, pow, power_of, abs, Terms, none, more, Test, is_less, is_same, compare, negation, conjunction, disjunction, push_word, pop_word, push_array, pop_array, push_control, pop_control, zero_array, begin_reversal, count_actions, give_action, end_reversal, unmarked, with_count, count_from, Act, assign, choose, loop, during, call, runtime, Code, stop, step, fixed, given, Procedure}
use Rattle.def_meaning.specs.LeastSet.{Dummies, AreWithin}
use Rattle.def_meaning.specs.Padded.{padded, own_nodes}
use Rattle.def_meaning.specs.Read.{reads, looked_at, is_read}
use Rattle.def_meaning.specs.Rename.{rename}
use Rattle.def_meaning.specs.Written.{writes, handed_back, is_written}
use Rattle.law_examples.specs.Texts.{use_of, literal, one, two, name_a, name_i, name_n, name_p, name_x, name_y, bare}

-- ---- what a statement reads and writes, where a unit Q has a dummy that is read and written, and one that is neither

abbrev pub of_first : Dummies
of_first name = true ∷ false ∷ []

abbrev pub Reads : Act → Type 0
Reads a = reads of_first (plain name_x) (step 1 a stop) ≡ true

abbrev pub Spares : Act → Type 0
Spares a = reads of_first (plain name_x) (step 1 a stop) ≡ false

-- an assignment to Y
abbrev pub to_y : Term → Act
to_y e = assign (plain name_y) none e

abbrev pub x_in : Term
x_in = use_of name_x

abbrev pub y_in : Term
y_in = use_of name_y

-- an expression reads what stands in it
abbrev pub ReadByTerms : Type 0
ReadByTerms =
    Reads (to_y x_in) × Reads (to_y (neg x_in)) × Reads (to_y (abs x_in)) × Reads (to_y (pow x_in 0))
    × Reads (to_y (bin plus x_in y_in)) × Reads (to_y (bin plus y_in x_in)) × Reads (to_y (power_of x_in y_in)) × Reads (to_y (power_of y_in x_in))
    × Reads (to_y (elem (plain name_x) (one y_in))) × Reads (to_y (elem (plain name_y) (two x_in y_in))) × Reads (to_y (elem (plain name_y) (two y_in x_in)))
    × Spares (to_y (literal 1)) × Spares (to_y y_in) × Spares (to_y (neg y_in)) × Spares (to_y (abs y_in)) × Spares (to_y (pow y_in 2))
    × Spares (to_y (bin plus y_in y_in)) × Spares (to_y (power_of y_in y_in)) × Spares (to_y (elem (plain name_y) (two y_in y_in)))

abbrev pub less : Term → Term → Test
less a b = compare is_less a b

abbrev pub in_x : Test
in_x = less x_in y_in

abbrev pub in_y : Test
in_y = less y_in y_in

abbrev pub branch : Test → Act → Act → Act
branch c a b = choose c (step 1 a stop) (step 1 b stop)

-- a loop over Y
abbrev pub over_y : Term → Term → Term → Act → Act
over_y a b c body = loop (plain name_y) a b c (step 1 body stop) unmarked

abbrev pub ReadByStatements : Type 0
ReadByStatements =
    Reads (branch (less x_in y_in) (to_y y_in) (to_y y_in)) × Reads (branch (less y_in x_in) (to_y y_in) (to_y y_in)) × Reads (branch (negation in_x) (to_y y_in) (to_y y_in))
    × Reads (branch (conjunction in_x in_y) (to_y y_in) (to_y y_in)) × Reads (branch (conjunction in_y in_x) (to_y y_in) (to_y y_in)) × Reads (branch (disjunction in_x in_y) (to_y y_in) (to_y y_in)) × Reads (branch (disjunction in_y in_x) (to_y y_in) (to_y y_in))
    × Reads (branch in_y (to_y x_in) (to_y y_in)) × Reads (branch in_y (to_y y_in) (to_y x_in)) × Spares (branch (negation (conjunction in_y (disjunction in_y in_y))) (to_y y_in) (to_y y_in))
    × Reads (over_y x_in y_in y_in (to_y y_in)) × Reads (over_y y_in x_in y_in (to_y y_in)) × Reads (over_y y_in y_in x_in (to_y y_in)) × Reads (over_y y_in y_in y_in (to_y x_in)) × Spares (over_y y_in y_in y_in (to_y y_in))
    × Reads (loop (plain name_y) y_in y_in y_in stop (count_from (plain name_x))) × Spares (loop (plain name_y) y_in y_in y_in stop (count_from (plain name_y))) × Spares (loop (plain name_x) y_in y_in y_in stop (with_count 3))
    × Reads (during in_x (step 1 (to_y y_in) stop)) × Reads (during in_y (step 1 (to_y x_in) stop)) × Spares (during in_y (step 1 (to_y y_in) stop))
    × Reads (assign (plain name_y) (one x_in) y_in) × Spares (assign (plain name_x) (one y_in) y_in)
    × (reads of_first (plain name_x) stop ≡ false)
    × (reads of_first (plain name_x) (step 1 (to_y y_in) (step 2 (to_y x_in) stop)) ≡ true)
    × (reads of_first (plain name_x) (step 1 (to_y x_in) (step 2 (to_y y_in) stop)) ≡ true)

abbrev pub calls : Terms → Act
calls actuals = call (codes "Q") actuals

-- a call reads the actual of the dummy that is read, and what stands in subscripts and values
abbrev pub ReadByCalls : Type 0
ReadByCalls =
    Reads (calls (two x_in y_in)) × Spares (calls (two y_in x_in)) × Spares (calls (two y_in y_in))
    × Reads (calls (two (elem (plain name_x) (one y_in)) y_in)) × Spares (calls (two y_in (elem (plain name_x) (one y_in)))) × Spares (calls (two (elem (plain name_y) (one y_in)) y_in))
    × Reads (calls (two y_in (elem (plain name_y) (one x_in)))) × Reads (calls (two (elem (plain name_y) (one x_in)) y_in))
    × Reads (calls (two y_in (neg x_in))) × Reads (calls (two y_in (bin plus x_in y_in))) × Reads (calls (two y_in (pow x_in 2))) × Reads (calls (two y_in (power_of y_in x_in))) × Reads (calls (two y_in (abs x_in)))
    × Spares (calls (two (literal 1) (neg y_in))) × Spares (calls (two (bin plus y_in y_in) (pow y_in 2))) × Spares (calls (two (power_of y_in y_in) (abs y_in)))
    × Reads (calls (more y_in (two y_in (neg x_in)))) × Reads (calls (more y_in (more y_in (two (neg x_in) y_in)))) × Spares (calls (more y_in (two y_in x_in))) × Spares (calls none)

abbrev pub ReadByRuntime : Type 0
ReadByRuntime =
    Reads (runtime (push_word (plain name_x) none)) × Reads (runtime (push_word (plain name_y) (one x_in))) × Spares (runtime (push_word (plain name_y) (one y_in)))
    × Reads (runtime (pop_word (plain name_y) (one x_in))) × Spares (runtime (pop_word (plain name_x) (one y_in)))
    × Reads (runtime (push_array (plain name_x))) × Spares (runtime (push_array (plain name_y))) × Spares (runtime (pop_array (plain name_x)))
    × Reads (runtime (push_control x_in)) × Spares (runtime (push_control y_in)) × Spares (runtime (pop_control (plain name_x))) × Spares (runtime (zero_array (plain name_x)))
    × Reads (runtime (begin_reversal x_in y_in)) × Reads (runtime (begin_reversal y_in x_in)) × Spares (runtime (begin_reversal y_in y_in))
    × Reads (runtime (count_actions x_in y_in (plain name_y))) × Reads (runtime (count_actions y_in x_in (plain name_y))) × Spares (runtime (count_actions y_in y_in (plain name_x)))
    × Reads (runtime (give_action x_in y_in y_in (plain name_y) (plain name_y) (plain name_y))) × Reads (runtime (give_action y_in x_in y_in (plain name_y) (plain name_y) (plain name_y))) × Reads (runtime (give_action y_in y_in x_in (plain name_y) (plain name_y) (plain name_y)))
    × Spares (runtime (give_action y_in y_in y_in (plain name_x) (plain name_x) (plain name_x))) × Spares (runtime end_reversal)

-- ---- what a statement writes

abbrev pub Writes : Act → Type 0
Writes a = writes of_first (plain name_x) (step 1 a stop) ≡ true

abbrev pub Leaves : Act → Type 0
Leaves a = writes of_first (plain name_x) (step 1 a stop) ≡ false

abbrev pub to_x : Act
to_x = assign (plain name_x) none y_in

abbrev pub Written : Type 0
Written =
    Writes to_x × Writes (assign (plain name_x) (one y_in) y_in) × Leaves (assign (plain name_y) (one x_in) x_in)
    × Writes (branch in_y to_x (to_y y_in)) × Writes (branch in_y (to_y y_in) to_x) × Leaves (branch in_x (to_y x_in) (to_y x_in))
    × Writes (loop (plain name_x) y_in y_in y_in stop unmarked) × Writes (over_y y_in y_in y_in to_x) × Leaves (loop (plain name_y) x_in x_in x_in (step 1 (to_y x_in) stop) (count_from (plain name_x)))
    × Writes (during in_y (step 1 to_x stop)) × Leaves (during in_x (step 1 (to_y y_in) stop))
    × Writes (calls (two x_in y_in)) × Writes (calls (two (elem (plain name_x) (one y_in)) y_in)) × Leaves (calls (two y_in x_in)) × Leaves (calls (two (elem (plain name_y) (one x_in)) x_in)) × Leaves (calls (more y_in (two y_in x_in))) × Leaves (calls none)
    × Leaves (calls (one (literal 1))) × Leaves (calls (one (neg x_in))) × Leaves (calls (one (bin plus x_in x_in))) × Leaves (calls (one (pow x_in 2))) × Leaves (calls (one (power_of x_in x_in))) × Leaves (calls (one (abs x_in)))
    × Leaves (runtime (push_word (plain name_x) (one x_in))) × Writes (runtime (pop_word (plain name_x) none)) × Leaves (runtime (pop_word (plain name_y) (one x_in))) × Leaves (runtime (push_array (plain name_x))) × Writes (runtime (pop_array (plain name_x))) × Leaves (runtime (pop_array (plain name_y)))
    × Leaves (runtime (push_control x_in)) × Writes (runtime (pop_control (plain name_x))) × Leaves (runtime (pop_control (plain name_y))) × Writes (runtime (zero_array (plain name_x))) × Leaves (runtime (zero_array (plain name_y)))
    × Leaves (runtime (begin_reversal x_in x_in)) × Writes (runtime (count_actions y_in y_in (plain name_x))) × Leaves (runtime (count_actions x_in x_in (plain name_y)))
    × Writes (runtime (give_action y_in y_in y_in (plain name_x) (plain name_y) (plain name_y))) × Writes (runtime (give_action y_in y_in y_in (plain name_y) (plain name_x) (plain name_y))) × Writes (runtime (give_action y_in y_in y_in (plain name_y) (plain name_y) (plain name_x)))
    × Leaves (runtime (give_action x_in x_in x_in (plain name_y) (plain name_y) (plain name_y))) × Leaves (runtime end_reversal)
    × (writes of_first (plain name_x) stop ≡ false)
    × (writes of_first (plain name_x) (step 1 (to_y y_in) (step 2 to_x stop)) ≡ true)
    × (writes of_first (plain name_x) (step 1 to_x (step 2 (to_y y_in) stop)) ≡ true)

-- ---- the dummies of units

abbrev pub unit_named : List ℕ → List (List ℕ) → Code → Procedure
unit_named name dummies body = record (bare dummies body) { name = name }

-- P(X,Y) calls Q(X,Y), and Q(X,Y) calls P(Y,X) and sets its Y to its X: each hands back both; of A(X,N) with Y(N) it reads N alone, and writes none
abbrev pub calling_back : List Procedure
calling_back =
    bare (name_x ∷ name_y ∷ []) (step 2 (calls (two x_in y_in)) stop)
    ∷ unit_named (codes "Q") (name_x ∷ name_y ∷ []) (step 2 (call name_p (two y_in x_in)) (step 3 (to_y x_in) stop))
    ∷ record (unit_named name_a (name_x ∷ name_n ∷ []) stop) { declarations = record { line = 2; name = name_i; extents = [] } ∷ record { line = 2; name = name_y; extents = fixed (pos 2) ∷ given name_n ∷ [] } ∷ [] } ∷ []

abbrev pub HandedBack : Type 0
HandedBack =
    (handed_back calling_back name_p ≡ true ∷ true ∷ [])
    × (handed_back calling_back (codes "Q") ≡ true ∷ true ∷ [])
    × (handed_back calling_back name_a ≡ false ∷ false ∷ [])
    × (handed_back calling_back name_x ≡ [])
    × (looked_at calling_back name_p ≡ true ∷ true ∷ [])
    × (looked_at calling_back (codes "Q") ≡ true ∷ true ∷ [])
    × (looked_at calling_back name_a ≡ false ∷ true ∷ [])
    × (handed_back (unit_named name_p (name_x ∷ name_y ∷ []) (step 2 (to_y x_in) stop) ∷ []) name_p ≡ false ∷ true ∷ [])
    × (looked_at (unit_named name_p (name_x ∷ name_y ∷ []) (step 2 (to_y x_in) stop) ∷ []) name_p ≡ true ∷ false ∷ [])
    × (is_written calling_back (bare (name_x ∷ name_y ∷ []) (step 2 (calls (two x_in (literal 1))) stop)) name_y ≡ false)
    × (is_written calling_back (bare (name_x ∷ name_y ∷ []) (step 2 (calls (two (literal 1) y_in)) stop)) name_y ≡ true)
    × (is_read calling_back (bare (name_x ∷ name_y ∷ []) (step 2 (call name_a (two x_in (literal 1))) stop)) name_x ≡ false)
    × (is_read calling_back (bare (name_x ∷ name_y ∷ []) (step 2 (call name_a (two y_in x_in)) stop)) name_x ≡ true)

-- a set is within another row by row, and an empty row within an empty one
abbrev pub Within : Type 0
Within = AreWithin ([] ∷ (true ∷ false ∷ []) ∷ []) ([] ∷ (true ∷ true ∷ []) ∷ [])

-- ---- other names

abbrev pub shaded : Var → Var
shaded (plain x) = shadow x
shaded v = v

abbrev pub sx : Var
sx = shadow name_x

abbrev pub s_in : Term
s_in = var sx

-- one of each statement over X, and the same over its shadow
abbrev pub each_over : Var → Term → Code
each_over v e =
    step 1 (assign v (one e) (bin plus (neg e) (power_of (pow e 2) (abs (elem v (two e (literal 1)))))))
    (step 2 (choose (negation (conjunction (less e e) (disjunction (less e (literal 1)) (less e e)))) (step 3 (assign v none e) stop) (step 4 (call name_p (two e (literal 1))) stop))
    (step 5 (loop v e e e (step 6 (during (less e e) (step 7 (runtime (push_word v (one e))) stop)) stop) unmarked)
    (step 8 (loop v e e e stop (with_count 3)) (step 9 (loop v e e e stop (count_from v))
    (step 10 (runtime (pop_word v (one e))) (step 11 (runtime (push_array v)) (step 12 (runtime (pop_array v)) (step 13 (runtime (push_control e)) (step 14 (runtime (pop_control v)) (step 15 (runtime (zero_array v))
    (step 16 (runtime (begin_reversal e e)) (step 17 (runtime (count_actions e e v)) (step 18 (runtime (give_action e e e v v v)) (step 19 (runtime end_reversal) stop))))))))))))))

abbrev pub Renamed : Type 0
Renamed = rename shaded (each_over (plain name_x) x_in) ≡ each_over sx s_in

-- ---- weights

abbrev pub idle_at : ℕ → Code → Code
idle_at line rest = step line (choose (compare is_same (lit (pos 0)) (lit (pos 0))) stop stop) rest

-- two statements more before each assignment, and one before each other
abbrev pub extra : Act → ℕ
extra (assign v s e) = 2
extra a = 1

abbrev pub Padded : Type 0
Padded =
    (padded extra (step 1 (branch in_x (to_y x_in) (calls none)) (step 2 (over_y x_in x_in x_in (runtime end_reversal)) (step 3 (during in_x (step 4 to_x stop)) stop)))
    ≡ idle_at 1 (step 1 (choose in_x (idle_at 1 (idle_at 1 (step 1 (to_y x_in) stop))) (idle_at 1 (step 1 (calls none) stop)))
    (idle_at 2 (step 2 (loop (plain name_y) x_in x_in x_in (idle_at 1 (step 1 (runtime end_reversal) stop)) unmarked)
    (idle_at 3 (step 3 (during in_x (idle_at 4 (idle_at 4 (step 4 to_x stop)))) stop))))))
    × (own_nodes (assign (plain name_y) (one (bin plus x_in y_in)) (neg x_in)) ≡ 5)
    × (own_nodes (branch (conjunction in_x in_y) to_x to_x) ≡ 7)
    × (own_nodes (loop (plain name_y) (neg x_in) (neg (neg x_in)) (bin plus x_in (neg (neg x_in))) (step 1 to_x stop) unmarked) ≡ 10)
    × (own_nodes (during in_x (step 1 to_x stop)) ≡ 3)
    × (own_nodes (calls (two x_in (neg x_in))) ≡ 3)
    × (own_nodes (runtime (give_action x_in (neg x_in) (neg (neg x_in)) (plain name_x) (plain name_x) (plain name_x))) ≡ 6)
