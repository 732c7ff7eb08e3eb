-- Lent: variables whose cells a dummy has while its unit runs, and slots that are without cells meanwhile.
use Rattle.std.specs.Prelude.{◌≡◌, ◌≤◌, ◌<◌, ℕ, List, [], map, length, slice_index_or, Some, slice_get, false}
use Rattle.adj_tree.specs.Code.{Var}
use Rattle.def_meaning.specs.Numbers.{Numbers}
use Rattle.def_meaning.specs.Store.{Shape, size_of, Store}
use Rattle.def_meaning.specs.Apart.{AreApart}
use Rattle.adj_interp_frame.specs.declared.slot.Slot.{Slot}
use Rattle.adj_interp_frame.specs.declared.actual.Actual.{Actual as CodeActual}
use Rattle.adj_interp_frame.specs.declared.actual.Actual.TheVariants as actual
use Rattle.adj_interp_frame.specs.declared.routine.Routine.{Routine}
use Rattle.adj_interp_frame.specs.Prepared.{var_at}
use Rattle.adj_interp_frame.specs.Framed.{slot_shape, IsSlot, shapes_in, store_in}
use Rattle.adj_interp_frame.specs.Called.{given_at, is_written_at}

-- ---- before the unit runs

-- an actual is the variable of a number or one of its cells
abbrev pub IsPlaceIn : {C : Type 0} → CodeActual C → ℕ → Type 0
IsPlaceIn (actual.Whole i) k = i ≡ k
IsPlaceIn (actual.Cell i j w) k = i ≡ k
IsPlaceIn (actual.Word w) k = ⊥

-- no actual before one is the variable or one of its cells
abbrev pub IsFirst : {C : Type 0} → List (CodeActual C) → ℕ → ℕ → Type 0
IsFirst {C} all i k = (j : ℕ) (a : CodeActual C) → j < i → slice_get all j ≡ Some a → IsPlaceIn a k → ⊥

-- a dummy gets a whole variable, and no actual before it is that or one of its cells
pub record IsLent {C : Type 0} (r : Routine) (all : List (CodeActual C)) (i k : ℕ) : Type 0 where
  pub given : given_at (length r.unit.now.dummies) all i ≡ Some (actual.Whole k)
  pub first : IsFirst all i k

-- some variable is lent so to the dummy of a number
pub record HasLender {C : Type 0} (r : Routine) (all : List (CodeActual C)) (i : ℕ) : Type 0 where
  pub variable : ℕ
  pub lent : IsLent r all i variable

-- each slot of an entry that has no cells is that of such a dummy
abbrev pub AreLent : {C : Type 0} → Routine → List (CodeActual C) → List (Slot C) → Type 0
AreLent {C} r all ws = (i : ℕ) (d : Slot C) → i < length ws → (slice_index_or ws i d).cells.items ≡ [] → HasLender r all i

-- a slot of an entry with the cells that it is to have: its own, or else those of the whole variable that is its actual
pub record IsFilled {C : Type 0} (vs : List (Slot C)) (all : List (CodeActual C)) (i : ℕ) (w u : Slot C) : Type 0 where
  pub shape : slot_shape u ≡ slot_shape w
  pub own : (w.cells.items ≡ [] → ⊥) → u.cells.items ≡ w.cells.items
  pub lent : (k : ℕ) (d : Slot C) → w.cells.items ≡ [] → slice_get all i ≡ Some (actual.Whole k) → u.cells.items ≡ (slice_index_or vs k d).cells.items

-- each slot of an entry is filled so
pub record AreFilled {C : Type 0} (vs : List (Slot C)) (all : List (CodeActual C)) (ws us : List (Slot C)) : Type 0 where
  pub count : length us ≡ length ws
  pub each : (i : ℕ) (d e : Slot C) → i < length ws → IsFilled vs all i (slice_index_or ws i d) (slice_index_or us i e)

-- no slot is without cells
abbrev pub HaveCells : {C : Type 0} → List (Slot C) → Type 0
HaveCells {C} vs = (i : ℕ) (d : Slot C) → i < length vs → (slice_index_or vs i d).cells.items ≡ [] → ⊥

-- ---- while it runs

-- from the dummy of a number on, one gets the variable so
pub record IsToCome {C : Type 0} (r : Routine) (all : List (CodeActual C)) (i k : ℕ) : Type 0 where
  pub number : ℕ
  pub later : i ≤ number
  pub lent : IsLent r all number k

-- slots of which some lent their cells have their shapes, and those that have cells are as they were
pub record HaveLent {C : Type 0} (r : Routine) (all : List (CodeActual C)) (vs us : List (Slot C)) : Type 0 where
  pub count : length us ≡ length vs
  pub shapes : (k : ℕ) (d : Slot C) → slot_shape (slice_index_or us k d) ≡ slot_shape (slice_index_or vs k d)
  pub kept : (k : ℕ) (d : Slot C) → k < length us → ((slice_index_or us k d).cells.items ≡ [] → ⊥) → slice_index_or us k d ≡ slice_index_or vs k d
  pub come : (k : ℕ) (d : Slot C) → k < length us → (slice_index_or us k d).cells.items ≡ [] → IsToCome r all 0 k

-- the names are apart, each has a slot, and each slot has its cells, or none: then they come back from the dummy of a number on
pub record IsFrameFrom {C : Type 0} (r : Routine) (all : List (CodeActual C)) (i : ℕ) (names : List (List ℕ)) (vs : List (Slot C)) : Type 0 where
  pub apart : AreApart names
  pub each : length names ≡ length vs
  pub sized : (k : ℕ) (d : Slot C) → k < length vs → ((slice_index_or vs k d).cells.items ≡ [] → ⊥) → IsSlot (slice_index_or vs k d)
  pub come : (k : ℕ) (d : Slot C) → k < length vs → (slice_index_or vs k d).cells.items ≡ [] → IsToCome r all i k

-- each variable has the shape of its slot, and the cells hold what the slot's do, where it has cells
pub record ShowsHeld {C : Type 0} (numbers : Numbers C) (names : List (List ℕ)) (vs : List (Slot C)) (shape : Var → Shape) (s : Store C) : Type 0 where
  pub shapes : (x : Var) → shape x ≡ shapes_in names vs x
  pub cells : (x : Var) (j : ℕ) → ((k : ℕ) (d : Slot C) → k < length vs → x ≡ var_at names k → (slice_index_or vs k d).cells.items ≡ [] → ⊥) → j < size_of (shape x) → s x j ≡ store_in numbers names vs x j

-- a dummy that isn't written holds at the end what its whole variable held
abbrev pub AreRead : {C : Type 0} → Routine → List (CodeActual C) → List (List ℕ) → Store C → Store C → Type 0
AreRead r all names t s = (i k j : ℕ) → is_written_at r i ≡ false → given_at (length r.unit.now.dummies) all i ≡ Some (actual.Whole k) → t (var_at r.names i) j ≡ s (var_at names k) j

-- how many cells each slot has by its shape
abbrev pub sizes_in : {C : Type 0} → List (Slot C) → List ℕ
sizes_in {C} vs = map (λ (v : Slot C). size_of (slot_shape v)) vs

-- an actual is a variable or a cell of the slots, by their shapes
abbrev pub IsActualWithin : {C : Type 0} → List (Slot C) → CodeActual C → Type 0
IsActualWithin vs (actual.Whole i) = i < length vs
IsActualWithin vs (actual.Cell i j w) = (i < length vs) × ((d : Slot _) → j < size_of (slot_shape (slice_index_or vs i d)))
IsActualWithin vs (actual.Word w) = Unit {0}

abbrev pub AreActualsWithin : {C : Type 0} → List (Slot C) → List (CodeActual C) → Type 0
AreActualsWithin {C} vs all = (k : ℕ) (d : CodeActual C) → k < length all → IsActualWithin vs (slice_index_or all k d)
