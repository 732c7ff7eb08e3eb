-- The names that are made for units, and those of them that are emitted.
use Rattle.std.specs.Prelude.{◌≡◌, ℕ, List, [], ◌∷◌, ◌++◌, map, Bool, if◌then◌else◌}
use Rattle.adj_tree.specs.Code.{Procedure}
use Rattle.def_sweep.specs.Names.{adjoint_name, forth_name, back_name}
use Rattle.adj_weave.specs.declared.made.MadeNames.{MadeNames}

-- they are the names that are made for the units of a program
pub record AreMade (ps : List Procedure) (n : MadeNames) : Type 0 where
  pub adjoints : n.adjoints.items ≡ map (adjoint_name ps) ps
  pub forths : n.forths.items ≡ map (forth_name ps) ps
  pub backs : n.backs.items ≡ map (back_name ps) ps

-- some names, if they are flagged
abbrev pub flagged_names : Bool → List (List ℕ) → List (List ℕ)
flagged_names b xs = if b then xs else []

-- the names of the units that are emitted: of each unit that of its adjoint, and those of its forward and its backward unit
abbrev pub made_flagged : List Bool → List Bool → List (List ℕ) → List (List ℕ) → List (List ℕ) → List (List ℕ)
made_flagged (f ∷ fs) (g ∷ gs) (x ∷ xs) (y ∷ ys) (z ∷ zs) = flagged_names f (x ∷ []) ++ (flagged_names g (y ∷ []) ++ (flagged_names g (z ∷ []) ++ made_flagged fs gs xs ys zs))
made_flagged fs gs xs ys zs = []
