-- A program with a loop over an array and a call, and the sweeps of its units, written out.
use Rattle.std.specs.Prelude.{ℕ, pos, List, [], ◌∷◌, map, ◌==◌, ◌||◌, not, false, codes}
use Rattle.adj_tree.specs.Code.{Var, plain, shadow, helper, work, control, first, stride, count, turn, Term, lit, var, elem, neg, bin, plus, minus, times, greater, power_of, Terms, none, more, is_less, is_same, is_greater, compare, unmarked, Act, assign, choose, loop, during, call, runtime, push_control, pop_control, push_word, pop_word, push_array, pop_array, Code, stop, step, given, Procedure}
use Rattle.def_names.specs.Numbers.{everything}
use Rattle.def_sweep.specs.Marking.{full_marks, ProgramFacts}

abbrev pub one_of : Var → Terms
one_of x = more (var x) none

-- SUBROUTINE S(A,N); INTEGER*8 A(N),N,I; DO 1 I=1,N; 1 A(I)=A(I)*A(I); END
abbrev pub squares : Procedure
squares = record {
  line = 1;
  name = codes "S";
  dummies = codes "A" ∷ codes "N" ∷ [];
  is_none = false;
  declarations = record { line = 2; name = codes "A"; extents = given (codes "N") ∷ [] } ∷ record { line = 2; name = codes "N"; extents = [] } ∷ record { line = 2; name = codes "I"; extents = [] } ∷ [];
  body = step 3 (loop (plain (codes "I")) (lit (pos 1)) (var (plain (codes "N"))) (lit (pos 1)) (step 4 (assign (plain (codes "A")) (one_of (plain (codes "I"))) (bin times (elem (plain (codes "A")) (one_of (plain (codes "I")))) (elem (plain (codes "A")) (one_of (plain (codes "I")))))) stop) unmarked) stop;
}

-- SUBROUTINE T(X,M); INTEGER*8 X(M),M; CALL S(X,M); END
abbrev pub twice : Procedure
twice = record {
  line = 6;
  name = codes "T";
  dummies = codes "X" ∷ codes "M" ∷ [];
  is_none = false;
  declarations = record { line = 7; name = codes "X"; extents = given (codes "M") ∷ [] } ∷ record { line = 7; name = codes "M"; extents = [] } ∷ [];
  body = step 8 (call (codes "S") (more (var (plain (codes "X"))) (one_of (plain (codes "M"))))) stop;
}

-- ---- the sweeps of S

abbrev an_element : Term
an_element = elem (plain (codes "A")) (one_of (plain (codes "I")))

abbrev its_shadow : Term
its_shadow = elem (shadow (codes "A")) (one_of (plain (codes "I")))

abbrev pub set : Var → Term → Act
set x e = assign x none e

abbrev push_scalar : Var → Act
push_scalar x = runtime (push_word x none)

abbrev pop_scalar : Var → Act
pop_scalar x = runtime (pop_word x none)

abbrev pub squares_forward : Code
squares_forward =
    step 3 (push_scalar (plain (codes "I")))
    (step 3 (set (helper first 1) (lit (pos 1)))
    (step 3 (set (helper stride 1) (lit (pos 1)))
    (step 3 (set (helper count 1) (lit (pos 0)))
    (step 3 (loop (plain (codes "I")) (var (helper first 1)) (var (plain (codes "N"))) (var (helper stride 1))
    (step 4 (runtime (push_word (plain (codes "A")) (one_of (plain (codes "I")))))
    (step 4 (assign (plain (codes "A")) (one_of (plain (codes "I"))) (bin times an_element an_element))
    (step 3 (set (helper count 1) (bin plus (var (helper count 1)) (lit (pos 1))))
    stop))) unmarked)
    (step 3 (push_scalar (helper first 1))
    (step 3 (push_scalar (helper stride 1))
    (step 3 (push_scalar (helper count 1))
    stop)))))))

abbrev pub squares_backward : Code
squares_backward =
    step 3 (pop_scalar (helper count 1))
    (step 3 (pop_scalar (helper stride 1))
    (step 3 (pop_scalar (helper first 1))
    (step 3 (loop (helper turn 1) (bin minus (var (helper count 1)) (lit (pos 1))) (lit (pos 0)) (neg (lit (pos 1)))
    (step 3 (set (plain (codes "I")) (bin plus (var (helper first 1)) (bin times (var (helper turn 1)) (var (helper stride 1)))))
    (step 4 (runtime (pop_word (plain (codes "A")) (one_of (plain (codes "I")))))
    (step 4 (set (helper work 1) its_shadow)
    (step 4 (assign (shadow (codes "A")) (one_of (plain (codes "I"))) (lit (pos 0)))
    (step 4 (set (helper work 2) (bin times (var (helper work 1)) an_element))
    (step 4 (assign (shadow (codes "A")) (one_of (plain (codes "I"))) (bin plus its_shadow (var (helper work 2))))
    (step 4 (set (helper work 2) (bin times (var (helper work 1)) an_element))
    (step 4 (assign (shadow (codes "A")) (one_of (plain (codes "I"))) (bin plus its_shadow (var (helper work 2))))
    stop)))))))) unmarked)
    (step 3 (pop_scalar (plain (codes "I")))
    (step 3 (set (shadow (codes "I")) (lit (pos 0)))
    stop)))))

-- ---- the sweeps of T: X is saved, and X and M are the callee's members, of which X is written

abbrev pub twice_forward : Code
twice_forward =
    step 8 (runtime (push_array (plain (codes "X"))))
    (step 8 (runtime (push_array (plain (codes "X"))))
    (step 8 (call (codes "S") (more (var (plain (codes "X"))) (one_of (plain (codes "M")))))
    stop))

abbrev pub twice_backward : Code
twice_backward =
    step 8 (runtime (pop_array (plain (codes "X"))))
    (step 8 (call (codes "S_B") (more (var (plain (codes "X"))) (more (var (shadow (codes "X"))) (more (var (plain (codes "M"))) (one_of (shadow (codes "M")))))))
    (step 8 (runtime (pop_array (plain (codes "X"))))
    stop))

-- the names of the emitted units and of the dummies of T's adjoint
abbrev pub emitted_names : List (List ℕ)
emitted_names = codes "S" ∷ codes "S_B" ∷ codes "T_B" ∷ []

abbrev pub emitted_dummies : List (List (List ℕ))
emitted_dummies =
    (codes "A" ∷ codes "N" ∷ [])
    ∷ (codes "A" ∷ codes "AB" ∷ codes "N" ∷ codes "NB" ∷ [])
    ∷ (codes "X" ∷ codes "XB" ∷ codes "M" ∷ codes "MB" ∷ []) ∷ []

-- ---- the same where T's call isn't kept, since nothing is needed after it: it has the number 2 and the points 6 and 7; the entries and
-- ends of S and T are the points 9 to 12

abbrev pub lean_facts : ProgramFacts
lean_facts = record {
  marks = record full_marks { kept = λ i. not (i == 2) };
  needed = λ p v. not (p == 7 || (p == 12 || (p == 1 || p == 10)));
  held = λ p. everything;
}

-- both groups are pushed, and no call stands in the forward sweep
abbrev pub lean_forward : Code
lean_forward =
    step 8 (runtime (push_array (plain (codes "X"))))
    (step 8 (runtime (push_array (plain (codes "X"))))
    stop)

-- ---- the same where T's call is split, with full marks: S has a forward and a backward unit, and no adjoint

abbrev pub pair_facts : ProgramFacts
pair_facts = record {
  marks = record full_marks { split = λ i. i == 2 };
  needed = λ p. everything;
  held = λ p. everything;
}

abbrev pub pair_names : List (List ℕ)
pair_names = codes "S_FWD" ∷ codes "S_BWD" ∷ codes "T_B" ∷ []

abbrev pub pair_forward : Code
pair_forward = step 8 (call (codes "S_FWD") (more (var (plain (codes "X"))) (one_of (plain (codes "M"))))) stop

abbrev pub pair_backward : Code
pair_backward = step 8 (call (codes "S_BWD") (more (var (plain (codes "X"))) (more (var (shadow (codes "X"))) (more (var (plain (codes "M"))) (one_of (shadow (codes "M"))))))) stop

-- at its end the forward unit pushes A, which it writes, and its local I; the backward unit pops them first
abbrev pub pair_left : Code
pair_left = step 1 (runtime (push_array (plain (codes "A")))) (step 1 (push_scalar (plain (codes "I"))) stop)

abbrev pub pair_taken : Code
pair_taken = step 1 (pop_scalar (plain (codes "I"))) (step 1 (runtime (pop_array (plain (codes "A")))) stop)

-- ---- a branch, a DO WHILE and a power, with full marks

-- a unit P over scalars
abbrev pub unit_over : List (List ℕ) → Code → Procedure
unit_over xs body = record { line = 1; name = codes "P"; dummies = xs; is_none = false; declarations = map (λ x. record { line = 2; name = x; extents = [] }) xs; body = body }

abbrev x : Var
x = plain (codes "X")

abbrev y : Var
y = plain (codes "Y")

abbrev n : Var
n = plain (codes "N")

abbrev r : Var
r = plain (codes "R")

abbrev i : Var
i = plain (codes "I")

abbrev work_of : ℕ → Term
work_of k = var (helper work k)

-- IF (X.GT.0) THEN, Y=X, ELSE, Y=0, END IF
abbrev pub branch : Procedure
branch = unit_over (codes "X" ∷ codes "Y" ∷ []) (step 3 (choose (compare is_greater (var x) (lit (pos 0))) (step 4 (set y (var x)) stop) (step 6 (set y (lit (pos 0))) stop)) stop)

abbrev pub branch_forward : Code
branch_forward =
    step 3 (choose (compare is_greater (var x) (lit (pos 0)))
    (step 4 (push_scalar y) (step 4 (set y (var x)) (step 3 (runtime (push_control (lit (pos 1)))) stop)))
    (step 6 (push_scalar y) (step 6 (set y (lit (pos 0))) (step 3 (runtime (push_control (lit (pos 0)))) stop)))) stop

abbrev pub branch_backward : Code
branch_backward =
    step 3 (runtime (pop_control (helper control 0)))
    (step 3 (choose (compare is_same (var (helper control 0)) (lit (pos 1)))
    (step 4 (pop_scalar y)
    (step 4 (set (helper work 1) (var (shadow (codes "Y"))))
    (step 4 (set (shadow (codes "Y")) (lit (pos 0)))
    (step 4 (set (shadow (codes "X")) (bin plus (var (shadow (codes "X"))) (work_of 1))) stop))))
    (step 6 (pop_scalar y) (step 6 (set (shadow (codes "Y")) (lit (pos 0))) stop))) stop)

-- DO WHILE (I.LT.N), R=R*X, I=I+1, END DO
abbrev pub powers : Procedure
powers = unit_over (codes "N" ∷ codes "X" ∷ codes "R" ∷ codes "I" ∷ [])
    (step 3 (during (compare is_less (var i) (var n)) (step 4 (set r (bin times (var r) (var x))) (step 5 (set i (bin plus (var i) (lit (pos 1)))) stop))) stop)

abbrev pub powers_forward : Code
powers_forward =
    step 3 (set (helper count 1) (lit (pos 0)))
    (step 3 (during (compare is_less (var i) (var n))
    (step 4 (push_scalar r)
    (step 4 (set r (bin times (var r) (var x)))
    (step 5 (push_scalar i)
    (step 5 (set i (bin plus (var i) (lit (pos 1))))
    (step 3 (set (helper count 1) (bin plus (var (helper count 1)) (lit (pos 1)))) stop))))))
    (step 3 (push_scalar (helper count 1)) stop))

abbrev pub powers_backward : Code
powers_backward =
    step 3 (pop_scalar (helper count 1))
    (step 3 (loop (helper turn 1) (bin minus (var (helper count 1)) (lit (pos 1))) (lit (pos 0)) (neg (lit (pos 1)))
    (step 5 (pop_scalar i)
    (step 5 (set (helper work 1) (var (shadow (codes "I"))))
    (step 5 (set (shadow (codes "I")) (lit (pos 0)))
    (step 5 (set (shadow (codes "I")) (bin plus (var (shadow (codes "I"))) (work_of 1)))
    (step 4 (pop_scalar r)
    (step 4 (set (helper work 1) (var (shadow (codes "R"))))
    (step 4 (set (shadow (codes "R")) (lit (pos 0)))
    (step 4 (set (helper work 2) (bin times (work_of 1) (var x)))
    (step 4 (set (shadow (codes "R")) (bin plus (var (shadow (codes "R"))) (work_of 2)))
    (step 4 (set (helper work 2) (bin times (work_of 1) (var r)))
    (step 4 (set (shadow (codes "X")) (bin plus (var (shadow (codes "X"))) (work_of 2))) stop))))))))))) unmarked) stop)

-- Y=X**N
abbrev pub power : Procedure
power = unit_over (codes "X" ∷ codes "N" ∷ codes "Y" ∷ []) (step 3 (set y (power_of (var x) (var n))) stop)

-- the guard keeps the exponent from falling below 0; N has no part in the derivative
abbrev pub power_backward : Code
power_backward =
    step 3 (pop_scalar y)
    (step 3 (set (helper work 1) (var (shadow (codes "Y"))))
    (step 3 (set (shadow (codes "Y")) (lit (pos 0)))
    (step 3 (set (helper work 2) (bin times (bin times (work_of 1) (var n)) (power_of (var x) (bin greater (bin minus (var n) (lit (pos 1))) (lit (pos 0))))))
    (step 3 (set (shadow (codes "X")) (bin plus (var (shadow (codes "X"))) (work_of 2))) stop))))
