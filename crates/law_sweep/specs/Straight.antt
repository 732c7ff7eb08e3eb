-- Declarations of scalars.
use Rattle.std.specs.Prelude.{◌≡◌, List, [], ◌∷◌}
use Rattle.adj_tree.specs.Code.{Declaration}

-- each is declared as a scalar
abbrev pub AreScalars : List Declaration → Type 0
AreScalars [] = Unit {0}
AreScalars (d ∷ ds) = (d.extents ≡ []) × AreScalars ds
