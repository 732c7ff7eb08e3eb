-- The units of a program with the numbers of their statements and points.
-- Statements are numbered from 0 in the order of the text, over the whole program, an outer one before those in it (`next` and `behind` of Marks).
use Rattle.std.specs.Prelude.{ℕ, suc, ◌+◌, ◌*◌, List, [], ◌∷◌, Option, Some, None, if◌then◌else◌}
use Rattle.adj_tree.specs.Code.{name_eq, Procedure}
use Rattle.def_names.specs.Numbers.{behind}
-- the point inside a statement: a DO, or the test of a DO WHILE
pub use Rattle.def_sweep.specs.Marks.{point_inside}
use Rattle.def_names.specs.StatementsIn.{statements_in}

-- a unit of a program with t statements: its number, its first statement's, and those of its points of entry and end
pub record Part : Type 0 where
  pub number : ℕ
  pub unit : Procedure
  pub first : ℕ
  pub entry : ℕ
  pub end : ℕ

-- the u-th unit of a program with t statements, i being the number of its first
abbrev pub part : ℕ → ℕ → ℕ → Procedure → Part
part t u i p = record { number = u; unit = p; first = i; entry = 3 * t + 2 * u; end = 3 * t + 2 * u + 1 }

abbrev pub parts_from : ℕ → ℕ → ℕ → List Procedure → List Part
parts_from t u i [] = []
parts_from t u i (p ∷ ps) = part t u i p ∷ parts_from t (suc u) (behind i p.body) ps

abbrev pub parts : List Procedure → List Part
parts ps = parts_from (statements_in 0 ps) 0 0 ps

-- the unit of a name
abbrev pub find_part : List Part → List ℕ → Option Part
find_part [] name = None
find_part (p ∷ ps) name = if name_eq p.unit.name name then Some p else find_part ps name
