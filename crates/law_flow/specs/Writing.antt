-- How worked programs and their marks are written.
use Rattle.std.specs.Prelude.{ℕ, pos, List, [], ◌∷◌, true, false}
use Rattle.adj_tree.specs.Code.{Var, plain, Term, lit, var, Terms, none, more, compare, is_less, Mark, Act, assign, choose, loop, during, call, Code, stop, step, given, Procedure}
use Rattle.def_flow.specs.Problem.{Problem}
use Rattle.law_flow.specs.Computed.{Row, Table}

-- ---- names: A, B, I, J, K, M, N, P, Q, R, T, X and Y

abbrev pub letter : ℕ → List ℕ
letter c = c ∷ []

abbrev pub name_a : List ℕ
name_a = letter 65

abbrev pub name_b : List ℕ
name_b = letter 66

abbrev pub name_i : List ℕ
name_i = letter 73

abbrev pub name_j : List ℕ
name_j = letter 74

abbrev pub name_k : List ℕ
name_k = letter 75

abbrev pub name_m : List ℕ
name_m = letter 77

abbrev pub name_n : List ℕ
name_n = letter 78

abbrev pub name_p : List ℕ
name_p = letter 80

abbrev pub name_q : List ℕ
name_q = letter 81

abbrev pub name_r : List ℕ
name_r = letter 82

abbrev pub name_t : List ℕ
name_t = letter 84

abbrev pub name_x : List ℕ
name_x = letter 88

abbrev pub name_y : List ℕ
name_y = letter 89

-- ---- terms and statements

abbrev pub num : ℕ → Term
num n = lit (pos n)

abbrev pub the : List ℕ → Term
the x = var (plain x)

-- the variables of these names
abbrev pub vars : List (List ℕ) → List Var
vars [] = []
vars (x ∷ xs) = plain x ∷ vars xs

abbrev pub set : List ℕ → Term → Act
set x e = assign (plain x) none e

abbrev pub code : List Act → Code
code [] = stop
code (a ∷ rest) = step 1 a (code rest)

-- a DO from 1 to a limit by 1
abbrev pub count_to : List ℕ → Term → List Act → Mark → Act
count_to x limit body m = loop (plain x) (num 1) limit (num 1) (code body) m

-- where the first is less than the second
abbrev pub if_less : Term → Term → List Act → List Act → Act
if_less a b first second = choose (compare is_less a b) (code first) (code second)

abbrev pub while_less : Term → Term → List Act → Act
while_less a b body = during (compare is_less a b) (code body)

abbrev pub actuals : List (List ℕ) → Terms
actuals [] = none
actuals (x ∷ xs) = more (the x) (actuals xs)

abbrev pub call_of : List ℕ → List (List ℕ) → Act
call_of name xs = call name (actuals xs)

-- ---- programs

abbrev pub subroutine : List ℕ → List (List ℕ) → List Act → Procedure
subroutine name dummies body = record { line = 1; name = name; dummies = dummies; is_none = false; declarations = []; body = code body }

-- with a dummy array of one extent, which is a dummy
abbrev pub with_array : List ℕ → List ℕ → Procedure → Procedure
with_array x extent u = record u { declarations = record { line = 1; name = x; extents = given extent ∷ [] } ∷ [] }

-- P(X,N,Y), where X is independent and Y dependent, and other units
abbrev pub of_head : List Act → List Procedure → Problem
of_head body others = record { units = subroutine name_p (name_x ∷ name_n ∷ name_y ∷ []) body ∷ others; head = 0; vars = true ∷ false ∷ false ∷ []; outvars = false ∷ false ∷ true ∷ []; split = λ i. false }

-- ---- marks

-- neither adjointed nor kept
abbrev pub dropped : Row
dropped = record { adjointed = false; kept = false; saved = [] }

abbrev pub adjoint_only : Row
adjoint_only = record { adjointed = true; kept = false; saved = [] }

-- kept, where these are saved
abbrev pub kept_saving : List (List ℕ) → Row
kept_saving xs = record { adjointed = false; kept = true; saved = vars xs }

-- adjointed and kept
abbrev pub both_saving : List (List ℕ) → Row
both_saving xs = record { adjointed = true; kept = true; saved = vars xs }

abbrev pub names_as_vars : List (List (List ℕ)) → List (List Var)
names_as_vars [] = []
names_as_vars (xs ∷ xss) = vars xs ∷ names_as_vars xss

-- the marks of statements, the variables with a shadow, and the entry sets, unit by unit
abbrev pub marks : List Row → List (List (List ℕ)) → List (List (List ℕ)) → Table
marks rows shadows entries = record { rows = rows; shadows = names_as_vars shadows; entries = entries }
