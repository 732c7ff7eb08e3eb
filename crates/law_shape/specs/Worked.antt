-- A program whose emitted form is looked at, and forms of it that aren't what marks say.
use Rattle.std.specs.Prelude.{ℕ, pos, List, [], ◌∷◌, ◌==◌, false, codes}
use Rattle.adj_tree.specs.Code.{plain, lit, var, bin, plus, times, none, Act, assign, runtime, push_word, pop_word, Code, stop, step, Declaration, Procedure}
use Rattle.def_sweep.specs.Marking.{ProgramMarks, full_marks}

abbrev pub X : List ℕ
X = codes "X"

abbrev pub XB : List ℕ
XB = codes "XB"

-- x = x * x
abbrev pub squared : Act
squared = assign (plain X) none (bin times (var (plain X)) (var (plain X)))

abbrev pub pushes : List ℕ → Act
pushes x = runtime (push_word (plain x) none)

abbrev pub declared_at : ℕ → List ℕ → Declaration
declared_at line x = record { line = line; name = x; extents = [] }

-- SUBROUTINE P(X), INTEGER*8 X, X=X*X, X=X*X, END
abbrev pub fourth_power : Procedure
fourth_power = record { line = 1; name = codes "P"; dummies = X ∷ []; is_none = false; declarations = declared_at 2 X ∷ []; body = step 3 squared (step 4 squared stop) }

-- the first assignment is kept, since the adjoint of the second reads what it gives; the second isn't
abbrev pub sparing : ProgramMarks
sparing = record full_marks { kept = λ i. i == 0 }

-- statements at one line
abbrev pub all_at : ℕ → List Act → Code → Code
all_at line [] rest = rest
all_at line (a ∷ acts) rest = step line a (all_at line acts rest)

-- t = e
abbrev sets : List ℕ → List ℕ → Act
sets t x = assign (plain t) none (var (plain x))

abbrev clears : List ℕ → Act
clears t = assign (plain t) none (lit (pos 0))

-- t = x * y, t = t + x
abbrev multiplies : List ℕ → List ℕ → List ℕ → Act
multiplies t x y = assign (plain t) none (bin times (var (plain x)) (var (plain y)))

abbrev grows : List ℕ → List ℕ → Act
grows t x = assign (plain t) none (bin plus (var (plain t)) (var (plain x)))

-- the adjoint of X=X*X
abbrev pub squared_back : List Act
squared_back =
    sets (codes "ADW1") XB ∷ clears XB ∷ multiplies (codes "ADW2") (codes "ADW1") X ∷ grows XB (codes "ADW2") ∷ multiplies (codes "ADW2") (codes "ADW1") X ∷ grows XB (codes "ADW2") ∷ []

-- it is popped between the two adjoints
abbrev pub turned_back : Code
turned_back = all_at 4 squared_back (step 3 (runtime (pop_word (plain X) none)) (all_at 3 squared_back stop))

-- an adjoint unit of P with this body
abbrev pub adjoint_with : Code → Procedure
adjoint_with body = record {
  line = 1;
  name = codes "P_B";
  dummies = X ∷ XB ∷ [];
  is_none = false;
  declarations = declared_at 2 X ∷ declared_at 2 XB ∷ declared_at 1 (codes "ADW1") ∷ declared_at 1 (codes "ADW2") ∷ [];
  body = body;
}

-- what is emitted by the sparing marks: X is pushed once, and squared once
abbrev pub emitted : List Procedure
emitted = adjoint_with (all_at 3 (pushes X ∷ squared ∷ []) turned_back) ∷ []

-- with one more word at each assignment that is kept
abbrev pub pushing_more : List Procedure
pushing_more = adjoint_with (all_at 3 (pushes X ∷ pushes X ∷ squared ∷ []) turned_back) ∷ []

-- the same where the word is that of a helper
abbrev pub pushing_helpers : List Procedure
pushing_helpers = adjoint_with (all_at 3 (pushes (codes "ADW1") ∷ pushes X ∷ squared ∷ []) turned_back) ∷ []

-- with two forward sweeps
abbrev pub twice_forward : List Procedure
twice_forward = adjoint_with (all_at 3 (pushes X ∷ squared ∷ pushes X ∷ squared ∷ []) turned_back) ∷ []

-- with every statement kept and saved
abbrev pub all_kept : Code
all_kept =
    all_at 3 (pushes X ∷ squared ∷ [])
    (all_at 4 (pushes X ∷ squared ∷ runtime (pop_word (plain X) none) ∷ []) turned_back)

abbrev pub keeping_all : List Procedure
keeping_all = adjoint_with all_kept ∷ []
