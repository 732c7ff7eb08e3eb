-- Shadows of the dummies of a head, where only some have one, and marks that suit a head.
use Rattle.std.specs.Prelude.{◌≡◌, ℕ, ℤ, pos, List, [], ◌∷◌, map, Bool, true, false}
use Rattle.adj_tree.specs.Code.{plain, Procedure}
use Rattle.def_meaning.specs.Units.{Slot}
use Rattle.def_meaning.specs.Apart.{has_name}
use Rattle.def_sweep.specs.Declared.{unmarked}
use Rattle.def_names.specs.Numbers.{Vars}
use Rattle.def_sweep.specs.Marks.{Marks}
use Rattle.def_sweep.specs.Facts.{In}

-- which of the names have a shadow
abbrev pub shadow_flags : Vars → List (List ℕ) → List Bool
shadow_flags a [] = []
shadow_flags a (x ∷ xs) = a (plain x) ∷ shadow_flags a xs

-- each member of the first list, followed by that of the second at its place where the flag there is set
abbrev pub joined_by : {A : Type 0} → List Bool → List A → List A → List A
joined_by [] xs ys = []
joined_by (b ∷ flags) [] ys = []
joined_by (b ∷ flags) (x ∷ xs) [] = []
joined_by (true ∷ flags) (x ∷ xs) (y ∷ ys) = x ∷ y ∷ joined_by flags xs ys
joined_by (false ∷ flags) (x ∷ xs) (y ∷ ys) = x ∷ joined_by flags xs ys

-- the cells of the shadows among such slots, and zeros for what has none
abbrev pub shadow_cells : List Bool → List (Slot ℤ) → List (List ℤ)
shadow_cells [] vs = []
shadow_cells (b ∷ flags) [] = []
shadow_cells (true ∷ flags) (v ∷ []) = []
shadow_cells (true ∷ flags) (v ∷ w ∷ vs) = w.cells ∷ shadow_cells flags vs
shadow_cells (false ∷ flags) (v ∷ vs) = map (λ c. pos 0) v.cells ∷ shadow_cells flags vs

-- a dummy that the flags mark
abbrev pub IsMarked : List (List ℕ) → List Bool → List ℕ → Type 0
IsMarked xs marks x = (has_name x xs ≡ true) × (has_name x (unmarked xs marks) ≡ false)

-- at the head's entry the independents are varied; at its end the dependents are useful, and have shadows.
-- (An independent without a shadow counts as one whose shadow is 0.)
pub record SuitHead (m : Marks) (from to : ℕ) (u : Procedure) (vars outvars : List Bool) : Type 0 where
  pub varied : (x : List ℕ) → IsMarked u.dummies vars x → In (plain x) (m.varied from)
  pub useful : (x : List ℕ) → IsMarked u.dummies outvars x → In (plain x) (m.useful to)
  pub shadowed : (x : List ℕ) → IsMarked u.dummies outvars x → In (plain x) m.shadowed
