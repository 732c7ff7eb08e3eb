-- Declaring: the layouts that stand for the extents of declarations, by the numbers of their variables.
use Rattle.std.specs.Prelude.{◌≡◌, ℕ, ◌<◌, ◌≤◌, List, [], length, slice_index_or, false}
use Rattle.adj_tree.specs.Code.{plain, Declaration}
use Rattle.def_meaning.specs.Apart.{has_name}
use Rattle.def_meaning.specs.Units.{declared}
use Rattle.adj_interp_frame.specs.declared.layout.Layout.{Layout}
use Rattle.adj_interp_frame.specs.declared.layout.Layout.TheVariants as layout
use Rattle.adj_interp_frame.specs.Numbered.{Resolves}
use Rattle.adj_interp_frame.specs.Called.{extents_at, IsLayoutBelow}

-- each name has the layout of its extents, where a name behind the layouts is a scalar's; no other name is declared
pub record Declares (ds : List Declaration) (names : List (List ℕ)) (layouts : List Layout) : Type 0 where
  pub few : length layouts ≤ length names
  pub each : (i : ℕ) → i < length names → Resolves extents_at IsLayoutBelow names (slice_index_or layouts i layout.Scalar) (declared ds (plain (slice_index_or names i [])))
  pub elsewhere : (x : List ℕ) → has_name x names ≡ false → declared ds (plain x) ≡ []
