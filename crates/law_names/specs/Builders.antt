-- How the worked programs are written.
use Rattle.std.specs.Prelude.{◌≡◌, ℕ, suc, pos, List, [], ◌∷◌, false, Some, None, codes}
use Rattle.adj_tree.specs.Code.{plain, Term, lit, var, elem, bin, plus, Terms, none, more, compare, is_less, unmarked, Act, assign, choose, loop, call, Code, stop, step, Extent, fixed, Declaration, Procedure}
use Rattle.def_names.specs.Variables.{Name}
use Rattle.def_names.specs.Fault.{Rules, source_rules, fault}
use Rattle.def_names.specs.Check.{first_fault}

-- ---- names and expressions

abbrev pub A : Name
A = codes "A"

abbrev pub B : Name
B = codes "B"

abbrev pub G : Name
G = codes "G"

abbrev pub H : Name
H = codes "H"

abbrev pub I : Name
I = codes "I"

abbrev pub J : Name
J = codes "J"

abbrev pub K : Name
K = codes "K"

abbrev pub M : Name
M = codes "M"

abbrev pub N : Name
N = codes "N"

abbrev pub P : Name
P = codes "P"

abbrev pub X : Name
X = codes "X"

abbrev pub Y : Name
Y = codes "Y"

-- a literal, a name, an element by one subscript, and a sum of a name with 1
abbrev pub num : ℕ → Term
num n = lit (pos n)

abbrev pub of : Name → Term
of x = var (plain x)

abbrev pub at_place : Name → Term → Term
at_place x e = elem (plain x) (more e none)

abbrev pub one_more : Name → Term
one_more x = bin plus (of x) (num 1)

abbrev pub listed : List Term → Terms
listed [] = none
listed (e ∷ es) = more e (listed es)

-- ---- statements

abbrev pub gets : Name → Term → Act
gets x e = assign (plain x) none e

abbrev pub gets_at : Name → Term → Term → Act
gets_at x s e = assign (plain x) (more s none) e

abbrev pub calling : Name → List Term → Act
calling x es = call x (listed es)

-- a DO from 1 to 3
abbrev pub thrice : Name → Code → Act
thrice x body = loop (plain x) (num 1) (num 3) (num 1) body unmarked

abbrev pub if_less : Term → Term → Code → Act
if_less e f body = choose (compare is_less e f) body stop

-- one statement, and statements one a line from a line on
abbrev pub only : ℕ → Act → Code
only line a = step line a stop

abbrev pub lines : ℕ → List Act → Code
lines line [] = stop
lines line (a ∷ more_acts) = step line a (lines (suc line) more_acts)

-- ---- declarations and units

abbrev pub integer : ℕ → Name → Declaration
integer line x = record { line = line; name = x; extents = [] }

abbrev pub array : ℕ → Name → List Extent → Declaration
array line x es = record { line = line; name = x; extents = es }

abbrev pub size : ℕ → Extent
size n = fixed (pos n)

-- a SUBROUTINE at a line
abbrev pub subroutine : ℕ → Name → List Name → List Declaration → Code → Procedure
subroutine line name dummies declarations body = record { line = line; name = name; dummies = dummies; is_none = false; declarations = declarations; body = body }

-- ---- what is said of them

abbrev pub Refuses : Rules → List Procedure → ℕ → ℕ → Type 0
Refuses m ps code line = first_fault m ps ≡ Some (fault code line)

abbrev pub Accepts : Rules → List Procedure → Type 0
Accepts m ps = first_fault m ps ≡ None

-- in a text as a user writes it
abbrev pub Refused : List Procedure → ℕ → ℕ → Type 0
Refused ps code line = Refuses source_rules ps code line

abbrev pub Accepted : List Procedure → Type 0
Accepted ps = Accepts source_rules ps
