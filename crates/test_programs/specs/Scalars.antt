-- Scalars: inputs of scalars.
use Rattle.std.specs.Prelude.{ℤ, [], ◌∷◌}
use Rattle.adj_tree.specs.declared.value.Slot.{Slot}

-- a scalar with a word
abbrev pub scalar_of : ℤ → Slot
scalar_of w = record { rows = 0; cols = 0; cells = w ∷ [] }
