-- The unit at a number.
use Rattle.std.proofs.Common.{◌≡◌, ℕ, zero, suc, ◌<◌, List, [], ◌∷◌, length, refl, arith, Some}
use Rattle.std.specs.List.{slice_get}
use Rattle.adj_tree.specs.Code.{Procedure}

pub unit_there : (ps : List Procedure) (n : ℕ) → n < length ps → (u : Procedure) × (slice_get ps n ≡ Some u)
unit_there [] n lt = absurd (omega arith)
unit_there (p ∷ ps) zero lt = (p, refl)
unit_there (p ∷ ps) (suc n) lt = unit_there ps n (omega arith)
