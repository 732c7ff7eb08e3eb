-- A std reader or writer as a stream.
use Rattle.std.specs.Prelude.{ℕ}

-- the reader or writer, and how many of its calls failed
pub record Adapter (T : Type 0) : Type 0 where
  pub inner : T
  pub faults : ℕ
