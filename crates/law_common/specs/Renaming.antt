-- Programs that are the same up to the names of variables in each unit.
use Rattle.std.specs.Prelude.{◌≡◌, ℕ, List, [], ◌∷◌, Option, Some, None}
use Rattle.adj_tree.specs.Code.{Var, plain, Extent, fixed, given, Procedure}
use Rattle.def_meaning.specs.Written.{find_unit}
use Rattle.def_meaning.specs.Units.{declared}
use Rattle.def_meaning.specs.Rename.{rename}
use Rattle.def_meaning.specs.Seen.{Separates}

-- the first names are the new ones of the second
abbrev pub AreNewNames : (Var → Var) → List (List ℕ) → List (List ℕ) → Type 0
AreNewNames r [] [] = Unit {0}
AreNewNames r [] (d ∷ ds) = ⊥
AreNewNames r (e ∷ es) [] = ⊥
AreNewNames r (e ∷ es) (d ∷ ds) = (r (plain d) ≡ plain e) × AreNewNames r es ds

abbrev pub IsNewExtent : (Var → Var) → Extent → Extent → Type 0
IsNewExtent r (fixed z) (fixed y) = z ≡ y
IsNewExtent r (given e) (given d) = r (plain d) ≡ plain e
IsNewExtent r _ _ = ⊥

abbrev pub AreNewExtents : (Var → Var) → List Extent → List Extent → Type 0
AreNewExtents r [] [] = Unit {0}
AreNewExtents r [] (d ∷ ds) = ⊥
AreNewExtents r (e ∷ es) [] = ⊥
AreNewExtents r (e ∷ es) (d ∷ ds) = IsNewExtent r e d × AreNewExtents r es ds

-- the first unit is the second under new names
pub record IsRenamed (r : Var → Var) (u v : Procedure) : Type 0 where
  pub separates : Separates r
  pub line : u.line ≡ v.line
  pub name : u.name ≡ v.name
  pub dummies : AreNewNames r u.dummies v.dummies
  pub declares : (x : Var) → AreNewExtents r (declared u.declarations (r x)) (declared v.declarations x)
  pub body : u.body ≡ rename r v.body

abbrev pub FoundRenamed : (Var → Var) → Option Procedure → Option Procedure → Type 0
FoundRenamed r None None = Unit {0}
FoundRenamed r None (Some v) = ⊥
FoundRenamed r (Some u) None = ⊥
FoundRenamed r (Some u) (Some v) = IsRenamed r u v

-- each unit of the first program is that of the second under new names
pub record AreRenamed (r : List ℕ → Var → Var) (units others : List Procedure) : Type 0 where
  pub at : (name : List ℕ) → FoundRenamed (r name) (find_unit units name) (find_unit others name)
