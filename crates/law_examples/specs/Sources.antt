-- The programs whose faulty adjoints are tried, each with a head P over scalars, and the marks that they are tried with.
use Rattle.std.specs.Prelude.{ℕ, pos, List, [], ◌∷◌, ◌==◌, ◌||◌, not, false, codes}
use Rattle.adj_tree.specs.Code.{plain, plus, minus, times, Term, lit, var, bin, none, more, unmarked, Act, loop, call, Code, stop, step, Procedure}
use Rattle.def_sweep.specs.Marking.{ProgramMarks, full_marks}
use Rattle.law_sweep.specs.Examples.{unit_over, set}

abbrev use_of : List ℕ → Term
use_of x = var (plain x)

-- t = a * b
abbrev multiply : List ℕ → List ℕ → List ℕ → Act
multiply t a b = set (plain t) (bin times (use_of a) (use_of b))

-- t = t + x
abbrev grow : List ℕ → List ℕ → Act
grow t x = set (plain t) (bin plus (use_of t) (use_of x))

-- a DO from 1 to 2
abbrev twice_over : List ℕ → Code → Act
twice_over x body = loop (plain x) (lit (pos 1)) (lit (pos 2)) (lit (pos 1)) body unmarked

-- the call of S with one actual
abbrev call_with : List ℕ → Act
call_with x = call (codes "S") (more (use_of x) none)

-- ---- sources

-- P(X), X=X*X
abbrev pub squared : Procedure
squared = unit_over (codes "X" ∷ []) (step 3 (multiply (codes "X") (codes "X") (codes "X")) stop)

-- P(X), X=X*X twice
abbrev pub fourth : Procedure
fourth = unit_over (codes "X" ∷ []) (step 3 (multiply (codes "X") (codes "X") (codes "X")) (step 4 (multiply (codes "X") (codes "X") (codes "X")) stop))

-- P(X,Y), Y=X*X
abbrev pub square : Procedure
square = unit_over (codes "X" ∷ codes "Y" ∷ []) (step 3 (multiply (codes "Y") (codes "X") (codes "X")) stop)

-- P(X,Y), Y=X*X, Y=Y*X
abbrev pub cube : Procedure
cube = unit_over (codes "X" ∷ codes "Y" ∷ []) (step 3 (multiply (codes "Y") (codes "X") (codes "X")) (step 4 (multiply (codes "Y") (codes "Y") (codes "X")) stop))

-- P(X,Y), Y=Y-X
abbrev pub difference : Procedure
difference = unit_over (codes "X" ∷ codes "Y" ∷ []) (step 3 (set (plain (codes "Y")) (bin minus (use_of (codes "Y")) (use_of (codes "X")))) stop)

-- P(X,R,I), DO I=1,2, R=R*I+X
abbrev pub sums : Procedure
sums = unit_over (codes "X" ∷ codes "R" ∷ codes "I" ∷ [])
    (step 3 (twice_over (codes "I") (step 4 (set (plain (codes "R")) (bin plus (bin times (use_of (codes "R")) (use_of (codes "I"))) (use_of (codes "X")))) stop)) stop)

-- P(X,Y,I), Y=X*I, DO I=1,2, Y=Y+X
abbrev pub scaled : Procedure
scaled = unit_over (codes "X" ∷ codes "Y" ∷ codes "I" ∷ [])
    (step 3 (multiply (codes "Y") (codes "X") (codes "I")) (step 4 (twice_over (codes "I") (step 5 (grow (codes "Y") (codes "X")) stop)) stop))

-- P(Y,I), DO I=1,2, Y=Y+I
abbrev pub growing : Procedure
growing = unit_over (codes "Y" ∷ codes "I" ∷ []) (step 3 (twice_over (codes "I") (step 4 (grow (codes "Y") (codes "I")) stop)) stop)

-- a unit S(A)
abbrev callee : Act → Procedure
callee a = record (unit_over (codes "A" ∷ []) (step 3 a stop)) { name = codes "S" }

-- S(A), A=A*A
abbrev pub squaring : Procedure
squaring = callee (multiply (codes "A") (codes "A") (codes "A"))

-- S(A), A=A+1
abbrev pub raising : Procedure
raising = callee (set (plain (codes "A")) (bin plus (use_of (codes "A")) (lit (pos 1))))

-- P(X), CALL S(X)
abbrev pub caller : Procedure
caller = unit_over (codes "X" ∷ []) (step 6 (call_with (codes "X")) stop)

-- P(X,Y), Y=X*X, CALL S(X)
abbrev pub calls_after : Procedure
calls_after = unit_over (codes "X" ∷ codes "Y" ∷ []) (step 6 (multiply (codes "Y") (codes "X") (codes "X")) (step 7 (call_with (codes "X")) stop))

-- P(X,Y), CALL S(X), Y=X*X
abbrev pub calls_before : Procedure
calls_before = unit_over (codes "X" ∷ codes "Y" ∷ []) (step 6 (call_with (codes "X")) (step 7 (multiply (codes "Y") (codes "X") (codes "X")) stop))

-- ---- marks

-- nothing is saved
abbrev pub saving_nothing : ProgramMarks
saving_nothing = record full_marks { saved = λ i v. false }

-- nothing is kept
abbrev pub keeping_nothing : ProgramMarks
keeping_nothing = record full_marks { kept = λ i. false }

-- the first statement saves nothing
abbrev pub sparing : ProgramMarks
sparing = record full_marks { saved = λ i v. not (i == 0) }

-- the second statement saves nothing
abbrev pub unsaved : ProgramMarks
unsaved = record full_marks { saved = λ i v. not (i == 1) }

-- neither the first nor the third saves anything
abbrev pub unsaved_call : ProgramMarks
unsaved_call = record full_marks { saved = λ i v. not (i == 0 || i == 2) }

-- nothing is varied at the first point
abbrev pub unvaried : ProgramMarks
unvaried = record full_marks { varied = λ p v. not (p == 0) }

-- no adjoint needs anything at its entry
abbrev pub memberless : ProgramMarks
memberless = record full_marks { members = λ name v. false }

-- the second statement isn't adjointed
abbrev pub unadjointed : ProgramMarks
unadjointed = record full_marks { adjointed = λ i. not (i == 1) }

-- the second statement isn't kept
abbrev pub unkept : ProgramMarks
unkept = record full_marks { kept = λ i. not (i == 1) }

-- the first statement is neither kept nor adjointed
abbrev pub left_out : ProgramMarks
left_out = record full_marks { kept = λ i. not (i == 0); adjointed = λ i. not (i == 0) }
