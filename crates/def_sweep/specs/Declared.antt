-- The adjoint of a program, as it is written.
use Rattle.std.specs.Prelude.{ℕ, zero, suc, List, [], ◌∷◌, Bool, true, false, if◌then◌else◌}
use Rattle.adj_tree.specs.Code.{Var, helper, Role, name_eq, Declaration, Procedure}
use Rattle.def_sweep.specs.Naming.{Named, name_in}

-- ---- the variables of a unit that declares them all

-- a scalar with its line
abbrev pub scalar : ℕ → List ℕ → Declaration
scalar line x = record { line = line; name = x; extents = [] }

-- the declaration of a variable
abbrev pub declaration : ℕ → List Declaration → List ℕ → Declaration
declaration line [] x = scalar line x
declaration line (d ∷ ds) x = if name_eq d.name x then d else declaration line ds x

-- ---- names

abbrev pub unit_name : Procedure → List ℕ
unit_name p = p.name

-- the first n helpers of a role, from the k-th on
abbrev pub helpers_from : Role → ℕ → ℕ → List Var
helpers_from r k zero = []
helpers_from r k (suc n) = helper r k ∷ helpers_from r (suc k) n

-- ---- the unit

-- the names of those whose mark is missing
abbrev pub unmarked : List (List ℕ) → List Bool → List (List ℕ)
unmarked [] marks = []
unmarked (x ∷ xs) [] = x ∷ unmarked xs []
unmarked (x ∷ xs) (true ∷ marks) = unmarked xs marks
unmarked (x ∷ xs) (false ∷ marks) = x ∷ unmarked xs marks

abbrev pub declared_helpers : List Named → ℕ → List Var → List Declaration
declared_helpers ns line [] = []
declared_helpers ns line (v ∷ vs) = scalar line (name_in ns v) ∷ declared_helpers ns line vs

-- the unit of this number
abbrev pub unit_at : ℕ → List Procedure → List Procedure
unit_at k [] = []
unit_at zero (p ∷ ps) = p ∷ []
unit_at (suc k) (p ∷ ps) = unit_at k ps
