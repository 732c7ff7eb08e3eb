-- Bytes that are left to read or were taken, where a stream tells them: `Some` list, or `None` where it doesn't.
use Rattle.std.specs.Prelude.{◌≡◌, ℕ, List, [], ◌++◌, length, Option, Some, None}

-- these bytes, and then those that are left
abbrev pub followed_by : List ℕ → Option (List ℕ) → Option (List ℕ)
followed_by front None = None
followed_by front (Some rest) = Some (front ++ rest)

-- those that were taken, and then these
abbrev pub extended_by : Option (List ℕ) → List ℕ → Option (List ℕ)
extended_by None more = None
extended_by (Some taken) more = Some (taken ++ more)

-- nothing is left, as far as the stream tells
abbrev pub IsAtEnd : Option (List ℕ) → Type 0
IsAtEnd None = Unit {0}
IsAtEnd (Some rest) = rest ≡ []

-- n bytes were read: the bytes left before are n bytes, and then those that are left now
pub record HasRead (n : ℕ) (old new : Option (List ℕ)) : Type 0 where
  pub front : List ℕ
  pub long : length front ≡ n
  pub before : old ≡ followed_by front new
