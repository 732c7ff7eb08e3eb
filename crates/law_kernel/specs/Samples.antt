-- How worked kernels are written.
use Rattle.std.specs.Prelude.{◌≡◌, ℕ, pos, List, [], ◌∷◌, ◌++◌, true, false, if◌then◌else◌, codes}
use Rattle.adj_tree.specs.Code.{Var, plain, name_eq, Term, lit, var, elem, neg, bin, greater, lesser, none, more, compare, is_less, Act, assign, choose, call, Code, stop, step, Extent, Declaration, Procedure}
use Rattle.def_meaning.specs.LeastSet.{Dummies}
use Rattle.def_names.specs.Fresh.{digits}
use Rattle.def_kernel.specs.Kernel.{wanted_local}
use Rattle.def_kernel.specs.Lowered.{lowered_act}

-- ---- expressions

abbrev pub number : ℕ → Term
number k = lit (pos k)

-- a scalar by its name
abbrev pub the : List ℕ → Term
the x = var (plain x)

-- an element of an array with one subscript, and with two
abbrev pub at : List ℕ → Term → Term
at a i = elem (plain a) (more i none)

abbrev pub at_two : List ℕ → Term → Term → Term
at_two a i j = elem (plain a) (more i (more j none))

abbrev pub larger : Term → Term → Term
larger a b = bin greater a b

abbrev pub smaller : Term → Term → Term
smaller a b = bin lesser a b

-- the local of a number: `ADV1` and on
abbrev pub adv : ℕ → List ℕ
adv k = codes "ADV" ++ digits k

-- ---- statements

-- X=e, A(i)=e, and A(i,j)=e
abbrev pub sets : List ℕ → Term → Act
sets x e = assign (plain x) none e

abbrev pub sets_at : List ℕ → Term → Term → Act
sets_at a i e = assign (plain a) (more i none) e

abbrev pub sets_at_two : List ℕ → Term → Term → Term → Act
sets_at_two a i j e = assign (plain a) (more i (more j none)) e

-- CALL of a unit with two actuals
abbrev pub calls : List ℕ → Term → Term → Act
calls unit a b = call unit (more a (more b none))

-- statements at one line
abbrev pub listed : ℕ → List Act → Code
listed line [] = stop
listed line (a ∷ more_acts) = step line a (listed line more_acts)

-- IF (e.LT.f) THEN, and one statement
abbrev pub where_less : Term → Term → Act → Act
where_less e f a = choose (compare is_less e f) (listed 5 (a ∷ [])) stop

-- ADVi=a, ADVj=b, IF (ADVi.LT.ADVj) THEN, ADVi=ADVj, END IF, and others
abbrev pub greatest : ℕ → ℕ → Term → Term → List Act → List Act
greatest i j a b rest = sets (adv i) a ∷ sets (adv j) b ∷ where_less (the (adv i)) (the (adv j)) (sets (adv i) (the (adv j))) ∷ rest

-- the same with the test turned round
abbrev pub least : ℕ → ℕ → Term → Term → List Act → List Act
least i j a b rest = sets (adv i) a ∷ sets (adv j) b ∷ where_less (the (adv j)) (the (adv i)) (sets (adv i) (the (adv j))) ∷ rest

-- ADVi=a, IF (ADVi.LT.0) THEN, ADVi=-ADVi, END IF, and others
abbrev pub positive : ℕ → Term → List Act → List Act
positive i a rest = sets (adv i) a ∷ where_less (the (adv i)) (number 0) (sets (adv i) (neg (the (adv i)))) ∷ rest

-- the unit G writes its first dummy alone, and H none
abbrev pub written_by : Dummies
written_by name = if name_eq name (codes "G") then true ∷ false ∷ [] else false ∷ false ∷ []

abbrev pub local_adv : ℕ → Var
local_adv k = plain (wanted_local k)

-- a statement of line 5 becomes these
abbrev pub Becomes : Act → List Act → Type 0
Becomes a bs = lowered_act local_adv written_by 5 a ≡ listed 5 bs

-- ---- units

-- a name declared at a line with extents
abbrev pub declares : ℕ → List ℕ → List Extent → Declaration
declares line x es = record { line = line; name = x; extents = es }

-- a SUBROUTINE in line 1, or at the line of a marked loop
abbrev pub unit_at : ℕ → List ℕ → List (List ℕ) → List Declaration → Code → Procedure
unit_at line name dummies ds body = record { line = line; name = name; dummies = dummies; is_none = false; declarations = ds; body = body }
