-- Numbered: names that get numbers, and what stands for a tree whatever names come later.
use Rattle.std.specs.Prelude.{◌≡◌, ℕ, ◌<◌, ◌≤◌, List, [], length, slice_index_or}

-- the later names are the earlier ones, and maybe others behind them
pub record Extends (earlier later : List (List ℕ)) : Type 0 where
  pub keeps : (i : ℕ) → i < length earlier → slice_index_or later i [] ≡ slice_index_or earlier i []
  pub longer : length earlier ≤ length later

-- with these names, and whatever comes behind them, a prepared tree stands for a tree and has no number above the names
pub record Resolves {P T : Type 0} (view : List (List ℕ) → P → T) (IsBelow : ℕ → P → Type 0) (names : List (List ℕ)) (prepared : P) (tree : T) : Type 0 where
  pub stands_for : (later : List (List ℕ)) → Extends names later → view later prepared ≡ tree
  pub below : (later : List (List ℕ)) → Extends names later → IsBelow (length later) prepared
