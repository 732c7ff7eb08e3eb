-- Numbers so low that those of points and of variables at points are of 64 bits.
use Rattle.std.specs.Prelude.{ℕ, ◌<◌, ◌^◌, List, All, length}
use Rattle.adj_tree.specs.Code.{Procedure}
use Rattle.def_names.specs.StatementsIn.{statements_in}
use Rattle.adj_flow.specs.declared.place.Place.{Place}
use Rattle.adj_flow.specs.declared.place.Place.TheVariants.{Outermost, PartOf, TurnOf}

-- the statement that holds what stands at a place; 0 where none does
abbrev pub holder_of : Place → ℕ
holder_of Outermost = 0
holder_of (PartOf i) = i
holder_of (TurnOf i x) = i

-- what stands at a place is held by a statement with a low number
abbrev pub IsLow : Place → Type 0
IsLow p = holder_of p < 2 ^ 30

-- fewer than 2^30 units, statements, and variables of each unit, as in a checked program that fits
pub record AreFew (vss : List (List (List ℕ))) (ps : List Procedure) : Type 0 where
  pub units : length ps < 2 ^ 30
  pub statements : statements_in 0 ps < 2 ^ 30
  pub variables : All (λ vs. length vs < 2 ^ 30) vss
