-- Worked programs with marked loops, in kernel form: the unit P is the head. (docs/EMITTED.md, "Sweeps")
use Rattle.std.specs.Prelude.{ℕ, pos, ◌+◌, ◌==◌, ◌||◌, not, false, List, [], ◌∷◌, Some, None, codes, if◌then◌else◌}
use Rattle.adj_tree.specs.Code.{plain, var_eq, minus, times, quot, lit, var, bin, none, more, Mark, with_count, count_from, assign, loop, call, Code, stop, step, Extent, fixed, given, Declaration, Procedure}
use Rattle.def_meaning.specs.Written.{find_unit}
use Rattle.law_sweep.specs.Examples.{unit_over, set}
use Rattle.def_sweep.specs.Marking.{ProgramMarks, full_marks, callee_in, read_by, dummy_set}
use Rattle.def_sweep.specs.Plan.{actuals_named}
use Rattle.def_sweep.specs.Reversals.{StepUnits, ReversedLines}
use Rattle.def_sweep.specs.StepUnits.{step_units}
use Rattle.law_examples.specs.Sources.{squaring}

-- at a line a DO from 1 to n with a directive, whose body is the call of its step unit, and statements behind it
abbrev directed_loop : ℕ → List ℕ → ℕ → Mark → List ℕ → List (List ℕ) → Code → Code
directed_loop line x n mark name actuals rest = step line (loop (plain x) (lit (pos 1)) (lit (pos n)) (lit (pos 1)) (step (line + 1) (call name (actuals_named actuals)) stop) mark) rest

-- with m snapshots
abbrev marked_loop : ℕ → List ℕ → ℕ → ℕ → List ℕ → List (List ℕ) → Code
marked_loop line x n m name actuals = directed_loop line x n (with_count m) name actuals stop

-- with as many snapshots as a variable says
abbrev counted_loop : ℕ → List ℕ → ℕ → List ℕ → List ℕ → List (List ℕ) → Code → Code
counted_loop line x n y name actuals rest = directed_loop line x n (count_from (plain y)) name actuals rest

-- ---- sources

-- P(X,I), DO I=1,n with m snapshots, CALL S(X); S(A), A=A*A
abbrev pub repeated : ℕ → ℕ → Procedure
repeated n m = unit_over (codes "X" ∷ codes "I" ∷ []) (marked_loop 3 (codes "I") n m (codes "S") (codes "X" ∷ []))

abbrev pub repeating : ℕ → ℕ → List Procedure
repeating n m = squaring ∷ repeated n m ∷ []

-- P(X,I,N), DO I=1,n with N snapshots, CALL S(X)
abbrev pub numbered : ℕ → Procedure
numbered n = unit_over (codes "X" ∷ codes "I" ∷ codes "N" ∷ []) (counted_loop 3 (codes "I") n (codes "N") (codes "S") (codes "X" ∷ []) stop)

abbrev pub numbering : ℕ → List Procedure
numbering n = squaring ∷ numbered n ∷ []

-- P(X,I,N,M), DO I=1,2 with N snapshots, CALL S(X), and then such a DO with M snapshots
abbrev pub twice_numbered : Procedure
twice_numbered =
    unit_over (codes "X" ∷ codes "I" ∷ codes "N" ∷ codes "M" ∷ [])
    (counted_loop 3 (codes "I") 2 (codes "N") (codes "S") (codes "X" ∷ []) (counted_loop 5 (codes "I") 2 (codes "M") (codes "S") (codes "X" ∷ []) stop))

abbrev pub numbering_twice : List Procedure
numbering_twice = squaring ∷ twice_numbered ∷ []

-- P(X,I,J), DO I=1,n with m snapshots, CALL T(X,J); T(A,J), DO J=1,k with l snapshots, CALL S(A); S(A), A=A*A
abbrev inner : ℕ → ℕ → Procedure
inner k l = record (unit_over (codes "A" ∷ codes "J" ∷ []) (marked_loop 5 (codes "J") k l (codes "S") (codes "A" ∷ []))) { name = codes "T" }

abbrev outer : ℕ → ℕ → Procedure
outer n m = unit_over (codes "X" ∷ codes "I" ∷ codes "J" ∷ []) (marked_loop 3 (codes "I") n m (codes "T") (codes "X" ∷ codes "J" ∷ []))

abbrev pub nested : ℕ → ℕ → ℕ → ℕ → List Procedure
nested n m k l = squaring ∷ inner k l ∷ outer n m ∷ []

-- P(X,E,I), DO I=1,2 with 1 snapshot, CALL S(X,E); S(A,E), A=A*A, D=6/E, E=E-1
abbrev dividing : Procedure
dividing =
    record (unit_over (codes "A" ∷ codes "E" ∷ [])
    (step 3 (set (plain (codes "A")) (bin times (var (plain (codes "A"))) (var (plain (codes "A")))))
    (step 4 (set (plain (codes "D")) (bin quot (lit (pos 6)) (var (plain (codes "E")))))
    (step 5 (set (plain (codes "E")) (bin minus (var (plain (codes "E"))) (lit (pos 1)))) stop)))) { name = codes "S" }

abbrev pub counting_down : Procedure
counting_down = unit_over (codes "X" ∷ codes "E" ∷ codes "I" ∷ []) (marked_loop 3 (codes "I") 2 1 (codes "S") (codes "X" ∷ codes "E" ∷ []))

abbrev pub divided : List Procedure
divided = dividing ∷ counting_down ∷ []

-- the same with E snapshots, of which the steps leave fewer
abbrev pub fewer_left : Procedure
fewer_left = unit_over (codes "X" ∷ codes "E" ∷ codes "I" ∷ []) (counted_loop 3 (codes "I") 2 (codes "E") (codes "S") (codes "X" ∷ codes "E" ∷ []) stop)

abbrev pub leaving_fewer : List Procedure
leaving_fewer = dividing ∷ fewer_left ∷ []

-- a variable with these extents, none for a scalar
abbrev declare : List ℕ → List Extent → Declaration
declare x extents = record { line = 2; name = x; extents = extents }

-- P(X,I,N,M), A(1), C(2), DO I=1,2 with 1 snapshot, CALL S(X,A,N); S(X,A,N), A(N), X=X*X, A(1)=0
abbrev clearing : Procedure
clearing = record {
  line = 1;
  name = codes "S";
  dummies = codes "X" ∷ codes "A" ∷ codes "N" ∷ [];
  is_none = false;
  declarations = declare (codes "X") [] ∷ declare (codes "A") (given (codes "N") ∷ []) ∷ declare (codes "N") [] ∷ [];
  body =
      step 3 (set (plain (codes "X")) (bin times (var (plain (codes "X"))) (var (plain (codes "X")))))
      (step 4 (assign (plain (codes "A")) (more (lit (pos 1)) none) (lit (pos 0))) stop);
}

abbrev pub with_arrays : Procedure
with_arrays = record {
  line = 1;
  name = codes "P";
  dummies = codes "X" ∷ codes "I" ∷ codes "N" ∷ codes "M" ∷ [];
  is_none = false;
  declarations = declare (codes "X") [] ∷ declare (codes "I") [] ∷ declare (codes "N") [] ∷ declare (codes "M") [] ∷ declare (codes "A") (fixed (pos 1) ∷ []) ∷ declare (codes "C") (fixed (pos 2) ∷ []) ∷ [];
  body = marked_loop 3 (codes "I") 2 1 (codes "S") (codes "X" ∷ codes "A" ∷ codes "N" ∷ []);
}

abbrev pub clearing_arrays : List Procedure
clearing_arrays = clearing ∷ with_arrays ∷ []

-- ---- marks

-- the second and the third statement have no part in a derivative, and E is neither saved nor needed by an adjoint
abbrev pub sparing : ProgramMarks
sparing = record full_marks {
  kept = λ i. not (i == 1 || i == 2);
  adjointed = λ i. not (i == 1 || i == 2);
  saved = λ i v. not (var_eq v (plain (codes "E")));
  members = λ name v. not (var_eq v (plain (codes "E")));
}

-- ---- the lines of the loops that are reversed

abbrev step_of : ProgramMarks → List Procedure → List ℕ → StepUnits
step_of m ps name = step_units name (callee_in m ps name) (dummy_set (read_by ps (find_unit ps name)))

-- the loop of P calls S
abbrev pub one_loop : ProgramMarks → List Procedure → ReversedLines
one_loop m ps line = if line == 3 then Some (step_of m ps (codes "S")) else None

-- both loops of P call S
abbrev pub loops_of_both : ProgramMarks → List Procedure → ReversedLines
loops_of_both m ps line = if line == 3 || line == 5 then Some (step_of m ps (codes "S")) else None

-- the loop of P calls T, and that of T calls S
abbrev pub two_loops : ProgramMarks → List Procedure → ReversedLines
two_loops m ps line = if line == 3 then Some (step_of m ps (codes "T")) else (if line == 5 then Some (step_of m ps (codes "S")) else None)
