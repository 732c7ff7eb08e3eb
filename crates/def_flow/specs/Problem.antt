-- What is differentiated: a kernel, its head, and the head's independents and dependents. Only units that calls reach from the head take part.
use Rattle.std.specs.Prelude.{◌≡◌, ℕ, List, [], ◌∷◌, Bool, true, false, Option, Some, None, Contains, slice_get}
use Rattle.adj_tree.specs.Code.{Var, Term, lit, var, elem, neg, bin, pow, power_of, abs, Terms, none, more, call, Procedure}
use Rattle.adj_reach.specs.Reached.{Reached}
use Rattle.def_flow.specs.Parts.{Part, parts, find_part}
use Rattle.def_flow.specs.Ways.{Way, passing, ways}
use Rattle.def_flow.specs.Standing.{Standing, standing, outermost}

pub record Problem : Type 0 where
  pub units : List Procedure
  -- the number of the head
  pub head : ℕ
  -- which of its dummies are independent, and which are dependent
  pub vars : List Bool
  pub outvars : List Bool
  -- the calls of these numbers are to be split, where they are adjointed
  pub split : ℕ → Bool

-- the statements of a unit
abbrev pub statements_of : Part → List Standing
statements_of g = standing outermost g.first g.unit.body

-- the ways of a unit: its entry leads to the first point of its body, and the last point of its body to its end
abbrev pub ways_of : Part → List Way
ways_of g = ways g.first g.entry g.end passing g.unit.body

-- the unit f calls the unit g by this statement, with these actuals
pub record CallsUnit (k : Problem) (f g : Part) (s : Standing) (args : Terms) : Type 0 where
  pub name : List ℕ
  pub stands : Contains (statements_of f) s
  pub act : s.act ≡ call name args
  pub finds : find_part (parts k.units) name ≡ Some g

pub record IsHead (k : Problem) (g : Part) : Type 0 where
  pub is : slice_get (parts k.units) k.head ≡ Some g

-- the units that take part
abbrev pub TakesPart : Problem → Part → Type 0
TakesPart k = Reached (IsHead k) (λ f g. (s : Standing) × (args : Terms) × CallsUnit k f g s args)

-- the dummies that have a flag
abbrev pub flagged : List Bool → List (List ℕ) → List (List ℕ)
flagged [] ds = []
flagged (b ∷ bs) [] = []
flagged (true ∷ bs) (d ∷ ds) = d ∷ flagged bs ds
flagged (false ∷ bs) (d ∷ ds) = flagged bs ds

-- the variable that an actual is
abbrev pub name_of : Term → Option Var
name_of (var y) = Some y
name_of (lit z) = None
name_of (elem y subs) = None
name_of (neg a) = None
name_of (bin op a b) = None
name_of (pow a k) = None
name_of (power_of a b) = None
name_of (abs a) = None

abbrev pub with_actual : List ℕ → Option Var → List (List ℕ × Var) → List (List ℕ × Var)
with_actual d None rest = rest
with_actual d (Some y) rest = (d, y) ∷ rest

-- each dummy with its actual, where that is a variable; in kernel form they all are, and no two are one
abbrev pub bound : List (List ℕ) → Terms → List (List ℕ × Var)
bound [] args = []
bound (d ∷ ds) none = []
bound (d ∷ ds) (more e es) = with_actual d (name_of e) (bound ds es)
