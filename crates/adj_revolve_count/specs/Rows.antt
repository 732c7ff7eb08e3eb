-- Rows of steps, and what the search for an action stands for.
use Rattle.std.specs.Prelude.{◌≡◌, ℕ, ◌+◌, ◌-◌, ◌≤◌, ◌<◌, ◌^◌, List, length, slice_get, Option, Some}
use Rattle.adj_revolve.specs.declared.machine.Action.{Action}
use Rattle.adj_revolve.specs.Binomial.{beta}
use Rattle.adj_revolve.specs.Schedule.{body, from_snapshot}
use Rattle.adj_revolve_count.specs.declared.row.Row.{Row}
use Rattle.adj_revolve_count.specs.declared.search.Search.{Search}
use Rattle.adj_revolve_count.specs.declared.search.Search.TheVariants.{Found, Within}
use Rattle.adj_revolve_count.specs.Stores.{stores}

-- the member of a list that is so far from its end, the last one being the first
abbrev pub from_end : {A : Type 0} → List A → ℕ → Option A
from_end xs left = slice_get xs (length xs - left)

-- the actions from where the program goes back to lo, for l steps
abbrev pub returned : ℕ → ℕ → ℕ → List Action
returned lo l s = from_snapshot lo l (body l lo l s)

-- how many steps a row has
abbrev pub row_steps : Row → ℕ
row_steps r = beta r.snapshots r.repetitions + r.extra

-- its actions, from where the program goes back to its place
abbrev pub row_actions : Row → List Action
row_actions r = returned r.low (row_steps r) r.snapshots

-- the extra steps are too few for a repetition more, and all lie within the limit
pub record IsRow (r : Row) : Type 0 where
  pub some : 0 < r.snapshots
  pub few : r.snapshots ≤ 64
  pub short : r.extra < beta (r.snapshots - 1) (r.repetitions + 1)
  pub taken : r.stores ≡ stores (r.snapshots - 1) r.extra
  pub within : r.low + row_steps r ≤ 2 ^ 40

-- a row at the end of another that has so many last actions
pub record IsEndOf (r whole : Row) (left : ℕ) : Type 0 where
  pub row : IsRow r
  pub steps : row_steps r ≤ row_steps whole
  pub enough : left ≤ length (row_actions r)
  pub same : from_end (row_actions r) left ≡ from_end (row_actions whole) left

-- the action that a search is for
abbrev pub sought : Search → Option Action
sought (Found a) = Some a
sought (Within r left) = from_end (row_actions r) left

-- a search has an action to find
abbrev pub IsSought : Search → Type 0
IsSought (Found a) = Unit {0}
IsSought (Within r left) = IsRow r × (0 < left) × (left ≤ length (row_actions r))

-- how many steps it still has to do with
abbrev pub search_steps : Search → ℕ
search_steps (Found a) = 0
search_steps (Within r left) = row_steps r
