-- Lists of numbers by what they are, each chained from its last place to its first.
use Rattle.std.specs.Prelude.{◌≡◌, ℕ, zero, suc, ◌<◌, List, length, if◌then◌else◌, ◌==◌, get_or}

-- one more than the last place below n at which x stands, or 0
abbrev pub last_of : ℕ → List ℕ → ℕ → ℕ
last_of x xs zero = 0
last_of x xs (suc n) = if get_or xs n 0 == x then suc n else last_of x xs n

-- the heads of the chains of numbers below n, and for each place the next of its chain
pub record AreChains (n : ℕ) (xs hs ns : List ℕ) : Type 0 where
  pub count : length hs ≡ n
  pub size : length ns ≡ length xs
  pub heads : (x : ℕ) → x < n → get_or hs x 0 ≡ last_of x xs (length xs)
  pub next : (k : ℕ) → k < length xs → get_or ns k 0 ≡ last_of (get_or xs k 0) xs k
