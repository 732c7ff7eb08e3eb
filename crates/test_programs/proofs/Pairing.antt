-- Scalars have tangents.
use Rattle.std.proofs.Common.{◌≡◌, List, [], ◌∷◌, map, length, refl, arith}
use Rattle.std.specs.Prelude.{ℤ}
use Rattle.adj_interp.specs.Dually.{AreTangents}
use Rattle.test_programs.specs.Scalars.{scalar_of}

-- as many tangents are tangents
pub scalar_tangents : (ws ts : List ℤ) → length ts ≡ length ws → AreTangents (map scalar_of ws) (map scalar_of ts)
scalar_tangents [] [] n = tt
scalar_tangents [] (t ∷ ts) n = absurd (omega arith)
scalar_tangents (w ∷ ws) [] n = absurd (omega arith)
scalar_tangents (w ∷ ws) (t ∷ ts) n = (record { rows = refl; cols = refl; cells = refl }, scalar_tangents ws ts (omega arith))
