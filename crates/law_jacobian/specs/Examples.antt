-- Worked patterns: small programs, with what was worked out by hand.
use Rattle.std.specs.Prelude.{◌≡◌, ℕ, suc, ℤ, pos, negsuc, List, [], ◌∷◌, length, Bool, true, false, None}
use Rattle.adj_tree.specs.Code.{plain, Term, neg, bin, pow, power_of, abs, plus, minus, times, quot, modulo, greater, lesser, unmarked, assign, loop, Code, stop, step, Procedure, given}
use Rattle.def_meaning.specs.Scene.{Outcome, Done, then_do}
use Rattle.def_meaning.specs.Units.{Slot}
use Rattle.law_meaning.specs.Samples.{name_a, name_b, name_i, name_k, name_n, name_p, name_r, name_x, name_y, of, literal, only, subroutine, element, array, one_cell, row_of}
use Rattle.def_jacobian.specs.Patterns.{Task, pattern_run, dense}
use Rattle.def_jacobian.specs.Groups.{AreLeastGroups, count_of}
use Rattle.def_jacobian.specs.Recovered.{Row, places, rows_at, columns_in, Entry, entries}

-- a task of a unit that calls none
abbrev pub task_of : Procedure → List Bool → List (Slot ℤ) → ℕ → Task
task_of u vars input budget = record { units = u ∷ []; unit = u; vars = vars; input = input; room = None; budget = budget }

-- the rows of the pattern at the cells of the dependents, and the statements that were used
abbrev pub rows_of : Task → List Bool → Outcome (List Row)
rows_of p outvars = then_do (pattern_run p) (λ out used. Done (rows_at out (length (places p.vars p.input 0)) (places outvars p.input 0)) used)

abbrev pub pattern_of : Task → List Bool → Outcome (List (List ℕ))
pattern_of p outvars = then_do (rows_of p outvars) (λ table used. Done (columns_in table) used)

abbrev pub dense_of : Task → List Bool → Outcome (List Entry)
dense_of p outvars = then_do (rows_of p outvars) (λ table used. Done (entries (dense p) table 0) used)

abbrev pub entry : ℕ → ℕ → ℤ → Entry
entry i c z = record { row = i; col = c; value = z }

-- ---- DO I=L,M, Y(I)=e, END DO, where N, X(N) and Y(N) are dummies

abbrev pub over_elements : Term → Term → Term → Procedure
over_elements first last e =
    subroutine 1 name_p (name_n ∷ name_x ∷ name_y ∷ [])
    (record { line = 2; name = name_x; extents = given name_n ∷ [] } ∷ record { line = 2; name = name_y; extents = given name_n ∷ [] } ∷ [])
    (step 3 (loop (plain name_i) first last (literal 1) (step 4 (assign (plain name_y) (only (of name_i)) e) stop) unmarked) stop)

abbrev pub of_x : List Bool
of_x = false ∷ true ∷ false ∷ []

abbrev pub of_y : List Bool
of_y = false ∷ false ∷ true ∷ []

-- Y(I)=X(I-1)+X(I+1) within the ends, N=4
abbrev pub neighbours : Task
neighbours =
    task_of (over_elements (literal 2) (bin minus (of name_n) (literal 1)) (bin plus (element name_x (bin minus (of name_i) (literal 1))) (element name_x (bin plus (of name_i) (literal 1)))))
    of_x (one_cell (pos 4) ∷ row_of 4 (pos 1 ∷ pos 2 ∷ pos 3 ∷ pos 4 ∷ []) ∷ row_of 4 (pos 0 ∷ pos 0 ∷ pos 0 ∷ pos 0 ∷ []) ∷ []) 100

-- the second row has the first and the third column, the third the second and the fourth; each entry is 1
abbrev pub NeighboursPattern : Type 0
NeighboursPattern =
    (pattern_of neighbours of_y ≡ Done ([] ∷ (0 ∷ 2 ∷ []) ∷ (1 ∷ 3 ∷ []) ∷ [] ∷ []) 5)
    × (dense_of neighbours of_y ≡ Done (entry 1 0 (pos 1) ∷ entry 1 2 (pos 1) ∷ entry 2 1 (pos 1) ∷ entry 2 3 (pos 1) ∷ []) 5)

-- Y(I)=X(I)*X(I), N=3
abbrev pub squares : Task
squares =
    task_of (over_elements (literal 1) (of name_n) (bin times (element name_x (of name_i)) (element name_x (of name_i))))
    of_x (one_cell (pos 3) ∷ row_of 3 (pos 1 ∷ pos 2 ∷ pos 3 ∷ []) ∷ row_of 3 (pos 0 ∷ pos 0 ∷ pos 0 ∷ []) ∷ []) 100

-- each row has its own column, and the entries are 2, 4 and 6
abbrev pub SquaresPattern : Type 0
SquaresPattern =
    (pattern_of squares of_y ≡ Done ((0 ∷ []) ∷ (1 ∷ []) ∷ (2 ∷ []) ∷ []) 7)
    × (dense_of squares of_y ≡ Done (entry 0 0 (pos 2) ∷ entry 1 1 (pos 4) ∷ entry 2 2 (pos 6) ∷ []) 7)

-- ---- each kind of operation, R(J)=e

abbrev pub each_term : ℕ → List Term → Code
each_term j [] = stop
each_term j (e ∷ es) = step 3 (assign (plain name_r) (only (literal j)) e) (each_term (suc j) es)

abbrev pub chosen_terms : List Term
chosen_terms =
    bin greater (of name_a) (of name_b) ∷ bin lesser (of name_a) (of name_b) ∷ bin times (abs (of name_a)) (of name_b) ∷ bin plus (bin modulo (of name_a) (of name_b)) (bin quot (of name_a) (of name_b))
    ∷ bin plus (pow (of name_a) 0) (of name_b) ∷ power_of (of name_a) (of name_k) ∷ bin times (of name_a) (literal 0) ∷ bin minus (neg (pow (of name_b) 2)) (of name_k) ∷ []

-- A, B and K are the columns 0, 1 and 2
abbrev pub chosen : ℤ → ℤ → ℤ → Task
chosen a b k =
    task_of (subroutine 1 name_p (name_a ∷ name_b ∷ name_k ∷ name_r ∷ []) (array 2 name_r 8 ∷ []) (each_term 1 chosen_terms))
    (true ∷ true ∷ true ∷ []) (one_cell a ∷ one_cell b ∷ one_cell k ∷ row_of 8 (pos 0 ∷ pos 0 ∷ pos 0 ∷ pos 0 ∷ pos 0 ∷ pos 0 ∷ pos 0 ∷ pos 0 ∷ []) ∷ []) 100

abbrev pub of_r : List Bool
of_r = false ∷ false ∷ false ∷ true ∷ []

-- MAX and MIN take the chosen one, the first where both are equal; a power by an exponent that is 0 has none, and otherwise its base's
abbrev pub ChosenColumns : Type 0
ChosenColumns =
    (pattern_of (chosen (pos 5) (pos 3) (pos 2)) of_r ≡ Done ((0 ∷ []) ∷ (1 ∷ []) ∷ (0 ∷ 1 ∷ []) ∷ [] ∷ (1 ∷ []) ∷ (0 ∷ []) ∷ (0 ∷ []) ∷ (1 ∷ 2 ∷ []) ∷ []) 8)
    × (pattern_of (chosen (negsuc 4) (pos 3) (pos 0)) of_r ≡ Done ((1 ∷ []) ∷ (0 ∷ []) ∷ (0 ∷ 1 ∷ []) ∷ [] ∷ (1 ∷ []) ∷ [] ∷ (0 ∷ []) ∷ (1 ∷ 2 ∷ []) ∷ []) 8)
    × (pattern_of (chosen (pos 3) (pos 3) (pos 1)) of_r ≡ Done ((0 ∷ []) ∷ (0 ∷ []) ∷ (0 ∷ 1 ∷ []) ∷ [] ∷ (1 ∷ []) ∷ (0 ∷ []) ∷ (0 ∷ []) ∷ (1 ∷ 2 ∷ []) ∷ []) 8)

-- one group for all columns of the first program is refused: the first and the third share a row; two groups are counted
abbrev pub OneGroupRefused : Type 0
OneGroupRefused = (AreLeastGroups ([] ∷ (0 ∷ 2 ∷ []) ∷ (1 ∷ 3 ∷ []) ∷ [] ∷ []) 4 (0 ∷ 0 ∷ 0 ∷ 0 ∷ []) → ⊥) × (count_of (0 ∷ 0 ∷ 1 ∷ 1 ∷ []) ≡ 2)
