-- What a run tells of its units, its reversals and its marked loops. (docs/RUNNING.md, "Events")
use Rattle.std.specs.Prelude.{ℕ, List}
use Rattle.def_meaning.specs.Store.{Shape}

pub data Event : Type 0 where
  -- a unit is entered: its name, how many units are open then, itself counted, how many words the tape holds, and the shapes of its dummies
  Enter : List ℕ → ℕ → ℕ → List Shape → Event
  -- a reversal of l steps with s snapshots begins in a unit that was entered at a level, with so many words on the tape
  Begin : ℕ → ℕ → ℕ → ℕ → Event
  -- the innermost open reversal of a unit that was entered at a level ends
  End : ℕ → Event
  -- the marked loop whose DO stands at a line ended after l turns, with s snapshots
  Marked : ℕ → ℕ → ℕ → Event
