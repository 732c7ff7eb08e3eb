-- The variables of a unit. (docs/REFUSALS.md, "Names")
use Rattle.std.specs.Prelude.{ℕ, ◌==◌, nat_le, List, [], ◌∷◌, ◌++◌, map, length, flat_map, filter, Bool, false, not, ◌&&◌, ◌||◌}
use Rattle.adj_tree.specs.Code.{plain, name_eq, Procedure}
use Rattle.def_meaning.specs.Units.{declared}
use Rattle.def_meaning.specs.Apart.{has_name}
use Rattle.def_names.specs.Statements.{At, statements}
use Rattle.def_names.specs.Standing.{in_act}

abbrev pub Name : Type 0
Name = List ℕ

-- the names of a unit with their lines: of the dummies, which stand in the SUBROUTINE; of the declared variables; and in statements
abbrev pub dummy_places : Procedure → List (At Name)
dummy_places u = map (λ d. (u.line, d)) u.dummies

abbrev pub declared_places : Procedure → List (At Name)
declared_places u = map (λ d. (d.line, d.name)) u.declarations

abbrev pub statement_places : Procedure → List (At Name)
statement_places u = flat_map (λ s. map (λ n. (s.0, n.name)) (in_act s.1)) (statements u.body)

abbrev pub places : Procedure → List (At Name)
places u = dummy_places u ++ (declared_places u ++ statement_places u)

-- each name once, where it first stands
abbrev pub first_places : List (At Name) → List (At Name)
first_places [] = []
first_places (p ∷ ps) = p ∷ filter (λ q. not (name_eq p.1 q.1)) (first_places ps)

-- the variables: dummies, then declared locals, then implicit locals by first appearance
abbrev pub variables : Procedure → List Name
variables u = map (λ p. p.1) (first_places (places u))

-- ---- types and ranks

abbrev pub declared_names : Procedure → List Name
declared_names u = map (λ d. d.name) u.declarations

-- a name that begins with I to N
abbrev pub is_integer_name : Name → Bool
is_integer_name [] = false
is_integer_name (c ∷ cs) = nat_le 73 c && nat_le c 78

-- it is declared, or an integer by its first letter where the unit hasn't IMPLICIT NONE
abbrev pub is_integer : Procedure → Name → Bool
is_integer u x = has_name x (declared_names u) || (not u.is_none && is_integer_name x)

-- the number of extents of a variable, 0 for a scalar
abbrev pub rank : Procedure → Name → ℕ
rank u x = length (declared u.declarations (plain x))

abbrev pub is_scalar : Procedure → Name → Bool
is_scalar u x = rank u x == 0

abbrev pub is_dummy : Procedure → Name → Bool
is_dummy u x = has_name x u.dummies
