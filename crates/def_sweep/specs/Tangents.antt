-- What it means that a program is the adjoint of another.
use Rattle.std.specs.Prelude.{◌≡◌, ◌≤◌, ℕ, ℤ, pos, List, [], ◌∷◌, ◌++◌, length, Bool, true, false, None}
use Rattle.adj_tree.specs.Code.{Procedure}
use Rattle.adj_word.specs.Dot.{dot}
use Rattle.def_meaning.specs.Numbers.{Numbers, duals}
use Rattle.def_meaning.specs.Event.{Event, Begin}
use Rattle.def_meaning.specs.Scene.{Done}
use Rattle.def_meaning.specs.Units.{Slot, Output, run_unit}

-- ---- runs with enough statements

-- with an empty tape that has no end and enough statements the unit's run is done, and always alike
pub record Ends {C : Type 0} (n : Numbers C) (ps : List Procedure) (u : Procedure) (input : List (Slot C)) : Type 0 where
  -- so many statements are enough
  pub enough : ℕ
  pub output : Output C
  -- so many are used
  pub used : ℕ
  pub runs : (k : ℕ) → enough ≤ k → run_unit n ps u input [] None k ≡ Done output used

-- ---- slots with their shadows and tangents

-- the shadows have the shapes of their variables
abbrev pub AreAlike : List (Slot ℤ) → List (Slot ℤ) → Type 0
AreAlike [] [] = Unit {0}
AreAlike [] (w ∷ ws) = ⊥
AreAlike (v ∷ vs) [] = ⊥
AreAlike (v ∷ vs) (w ∷ ws) = (w.shape ≡ v.shape) × ((length w.cells ≡ length v.cells) × AreAlike vs ws)

abbrev pub cells_of : {C : Type 0} → List (Slot C) → List (List C)
cells_of [] = []
cells_of (v ∷ vs) = v.cells ∷ cells_of vs

-- words and their tangents side by side
abbrev pub side_by_side : List ℤ → List ℤ → List (ℤ × ℤ)
side_by_side [] ds = []
side_by_side (c ∷ cs) [] = []
side_by_side (c ∷ cs) (d ∷ ds) = (c, d) ∷ side_by_side cs ds

-- the input of the dual run: each cell with its tangent
abbrev pub with_direction : List (Slot ℤ) → List (List ℤ) → List (Slot (ℤ × ℤ))
with_direction [] ds = []
with_direction (v ∷ vs) [] = []
with_direction (v ∷ vs) (d ∷ ds) = record { shape = v.shape; cells = side_by_side v.cells d } ∷ with_direction vs ds

abbrev pub tangents_in : List (ℤ × ℤ) → List ℤ
tangents_in [] = []
tangents_in (c ∷ cs) = c.1 ∷ tangents_in cs

-- the tangents of an output
abbrev pub tangents_of : List (List (ℤ × ℤ)) → List (List ℤ)
tangents_of [] = []
tangents_of (c ∷ cs) = tangents_in c ∷ tangents_of cs

-- ---- reversals

-- the steps and the snapshots of the reversals that were begun, in order of time
abbrev pub reversals : List Event → List (ℕ × ℕ)
reversals [] = []
reversals (Begin steps snapshots level height ∷ es) = (steps, snapshots) ∷ reversals es
reversals (e ∷ es) = reversals es

-- ---- marks over dummies: a dummy whose mark is missing isn't marked

abbrev pub AreZeros : List ℤ → Type 0
AreZeros [] = Unit {0}
AreZeros (z ∷ zs) = (z ≡ pos 0) × AreZeros zs

-- the cells of the dummies that aren't marked are 0
abbrev pub OthersAreZero : List Bool → List (List ℤ) → Type 0
OthersAreZero marks [] = Unit {0}
OthersAreZero [] (c ∷ cs) = AreZeros c × OthersAreZero [] cs
OthersAreZero (true ∷ marks) (c ∷ cs) = OthersAreZero marks cs
OthersAreZero (false ∷ marks) (c ∷ cs) = AreZeros c × OthersAreZero marks cs

-- the cells of the marked dummies, one after the other
abbrev pub marked_cells : List Bool → List (List ℤ) → List ℤ
marked_cells [] cs = []
marked_cells (m ∷ marks) [] = []
marked_cells (true ∷ marks) (c ∷ cs) = c ++ marked_cells marks cs
marked_cells (false ∷ marks) (c ∷ cs) = marked_cells marks cs

-- the product over the marked dummies, modulo 2 ^ 64
abbrev pub product : List Bool → List (List ℤ) → List (List ℤ) → ℤ
product marks xs ys = dot (marked_cells marks xs) (marked_cells marks ys)

-- a tangent for each cell of the input
abbrev pub AreTangents : List (Slot ℤ) → List (List ℤ) → Type 0
AreTangents [] [] = Unit {0}
AreTangents [] (d ∷ ds) = ⊥
AreTangents (v ∷ vs) [] = ⊥
AreTangents (v ∷ vs) (d ∷ ds) = (length d ≡ length v.cells) × AreTangents vs ds

-- a direction over the independents
pub record IsDirection (vars : List Bool) (input : List (Slot ℤ)) (d : List (List ℤ)) : Type 0 where
  pub tangents : AreTangents input d
  pub others : OthersAreZero vars d

-- ---- adjoints

-- the dual run in a direction, whose product over the dependents is that of the adjoints over the independents
pub record Agrees (ps : List Procedure) (u : Procedure) (vars outvars : List Bool) (input : List (Slot ℤ)) (before after : List (List ℤ)) (d : List (List ℤ)) : Type 0 where
  pub dual : Ends duals ps u (with_direction input d)
  pub products : product vars after d ≡ product outvars before (tangents_of (cells_of dual.output.slots))
