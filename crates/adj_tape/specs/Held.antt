-- What a tape holds. (docs/RUNNING.md, "Runtime calls")
use Rattle.std.specs.Prelude.{ℕ, List}

pub record Held (C : Type 0) : Type 0 where
  -- the words, from the top down
  pub words : List C
  -- how many there may be
  pub room : ℕ
