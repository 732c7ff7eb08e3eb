-- Extents that are names.
use Rattle.std.specs.Prelude.{ℕ, List, Bool, false}
use Rattle.adj_tree.specs.Code.{Extent, fixed, given, name_eq}

-- the extent is this name
abbrev pub is_named : List ℕ → Extent → Bool
is_named x (fixed z) = false
is_named x (given y) = name_eq x y
