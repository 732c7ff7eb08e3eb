-- A source and a sink in memory, as their callers see them.
use Rattle.std.specs.Prelude.{ℕ, ◌-◌, ◌==◌, Bool, ◌&&◌, ◌||◌, not, List, ◌++◌, length, take, drop, min}
use Rattle.std.specs.List.{list_any}
use Rattle.adj_io.specs.Faults.{one_more}

-- the calls so far: how many were made, the numbers of those that fail (the first call is 1), and how many failed
pub record Tally : Type 0 where
  pub made : ℕ
  pub failing : List ℕ
  pub faults : ℕ

-- before the first call
abbrev pub untouched : List ℕ → Tally
untouched failing = record { made = 0; failing = failing; faults = 0 }

-- one call more
abbrev pub called : Tally → Tally
called t = record t { made = one_more t.made }

-- one call more, which failed
abbrev pub failed : Tally → Tally
failed t = record t { made = one_more t.made; faults = one_more t.faults }

-- the next call is one of those that fail
abbrev pub is_failing : Tally → Bool
is_failing t = list_any (λ n. n == one_more t.made) t.failing

-- a source in memory: the bytes left, the most bytes that a call gives, and its calls
pub record Feed : Type 0 where
  pub left : List ℕ
  pub piece : ℕ
  pub calls : Tally

-- what a call with this room gives, where it doesn't fail
abbrev pub given : Feed → ℕ → List ℕ
given f room = take (min f.piece room) f.left

-- the source after it gave so many bytes
abbrev pub fed : Feed → ℕ → Feed
fed f k = record f { left = drop k f.left; calls = called f.calls }

-- the source after a call that failed
abbrev pub unfed : Feed → Feed
unfed f = record f { calls = failed f.calls }

-- a sink in memory: the bytes taken, how many it has room for, the most bytes that a call takes, and its calls
pub record Store : Type 0 where
  pub taken : List ℕ
  pub room : ℕ
  pub piece : ℕ
  pub calls : Tally

-- a call with these bytes fails: there are some, and either the call is one of those that fail or no room is left
abbrev pub is_refused : Store → List ℕ → Bool
is_refused s bytes = not (length bytes == 0) && (is_failing s.calls || (length s.taken == s.room))

-- what a call takes of these bytes, where it doesn't fail
abbrev pub accepted : Store → List ℕ → List ℕ
accepted s bytes = take (min s.piece (s.room - length s.taken)) bytes

-- the sink after it took these bytes
abbrev pub stored : Store → List ℕ → Store
stored s bytes = record s { taken = s.taken ++ bytes; calls = called s.calls }

-- the sink after a call that failed
abbrev pub unstored : Store → Store
unstored s = record s { calls = failed s.calls }
