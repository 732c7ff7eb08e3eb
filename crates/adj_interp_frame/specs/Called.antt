-- Called: the actuals of a call, the units that are prepared, and what stands at the entry of one.
use Rattle.std.specs.Prelude.{◌≡◌, ℕ, ◌<◌, ℤ, List, [], ◌∷◌, ◌++◌, map, length, slice_index_or, drop, Bool, true, false, ◌==◌, ◌&&◌, ◌||◌, Result, Ok, Err, Option, None, slice_get, nat_lt, if◌then◌else◌}
use Rattle.adj_tree.specs.Code.{Var, plain, Term, Extent, fixed, given}
use Rattle.adj_tree.specs.View.{procedure_of}
use Rattle.adj_tree.specs.declared.value.Trap.{Trap as CodeTrap}
use Rattle.def_meaning.specs.Trap.{Trap, then_ok}
use Rattle.def_meaning.specs.Numbers.{Numbers}
use Rattle.def_meaning.specs.Store.{Shape, size_of, Store}
use Rattle.def_meaning.specs.Value.{Setting, value}
use Rattle.def_meaning.specs.Apart.{has_name, AreApart}
use Rattle.def_meaning.specs.Units.{declared, extents_of, shape_of, Place, put, Actual, one_word, whole, cell, nowhere, entry_store, shape_fits, dummies_fit}
use Rattle.adj_interp_frame.specs.declared.slot.Slot.{Slot}
use Rattle.adj_interp_frame.specs.declared.actual.Actual.{Actual as CodeActual}
use Rattle.adj_interp_frame.specs.declared.actual.Actual.TheVariants as actual
use Rattle.adj_interp_frame.specs.declared.layout.Bound.{Bound}
use Rattle.adj_interp_frame.specs.declared.layout.Bound.TheVariants as bound
use Rattle.adj_interp_frame.specs.declared.layout.Layout.{Layout}
use Rattle.adj_interp_frame.specs.declared.layout.Layout.TheVariants as layout
use Rattle.adj_interp_frame.specs.declared.layout.Area.{Area}
use Rattle.adj_interp_frame.specs.declared.layout.Area.TheVariants as area
use Rattle.adj_interp_frame.specs.declared.routine.Routine.{Routine}
use Rattle.adj_interp_frame.specs.Prepared.{var_at}
use Rattle.adj_interp_frame.specs.Framed.{trap_of, slot_shape, zero_in}

-- ---- actuals

-- a result of the code as it is defined, where its value stands for another
abbrev pub result_as : {A B : Type 0} → (A → B) → Result A CodeTrap → Result B Trap
result_as f (Ok a) = Ok (f a)
result_as f (Err t) = Err (trap_of t)

-- what an actual is in the caller's store
abbrev pub actual_in : {C : Type 0} → List (List ℕ) → (Var → Shape) → Store C → CodeActual C → Actual C
actual_in names shape s (actual.Whole i) = record { shape = shape (var_at names i); cells = s (var_at names i); place = whole (var_at names i) }
actual_in names shape s (actual.Cell i j w) = one_word w (cell (var_at names i) j)
actual_in names shape s (actual.Word w) = one_word w nowhere

-- the word of an expression as an actual
abbrev pub word_of : {C : Type 0} → Setting C → Term → Store C → Result (Actual C) Trap
word_of n e s = then_ok (value n e s) (λ c. Ok (one_word c nowhere))

abbrev pub actuals_in : {C : Type 0} → List (List ℕ) → (Var → Shape) → Store C → List (CodeActual C) → List (Actual C)
actuals_in names shape s all = map (actual_in names shape s) all

-- an actual is a variable or a cell of the slots
abbrev pub IsActualBelow : {C : Type 0} → List (Slot C) → CodeActual C → Type 0
IsActualBelow vs (actual.Whole i) = i < length vs
IsActualBelow vs (actual.Cell i j w) = (i < length vs) × ((d : Slot _) → j < length (slice_index_or vs i d).cells.items)
IsActualBelow vs (actual.Word w) = Unit {0}

abbrev pub AreActualsBelow : {C : Type 0} → List (Slot C) → List (CodeActual C) → Type 0
AreActualsBelow {C} vs all = (k : ℕ) (d : CodeActual C) → k < length all → IsActualBelow vs (slice_index_or all k d)

-- the actual of a variable, where it is a dummy that gets one
abbrev pub given_at : {C : Type 0} → ℕ → List (CodeActual C) → ℕ → Option (CodeActual C)
given_at count all i = if nat_lt i count then slice_get all i else None

-- ---- extents

abbrev pub extent_at : List (List ℕ) → Bound → Extent
extent_at names (bound.Fixed z) = fixed z
extent_at names (bound.Given i) = given (slice_index_or names i [])

-- the extents that a layout stands for
abbrev pub extents_at : List (List ℕ) → Layout → List Extent
extents_at names layout.Scalar = []
extents_at names (layout.List a) = extent_at names a ∷ []
extents_at names (layout.Table a b) = extent_at names a ∷ extent_at names b ∷ []

abbrev pub IsBoundBelow : ℕ → Bound → Type 0
IsBoundBelow count (bound.Fixed z) = Unit {0}
IsBoundBelow count (bound.Given i) = i < count

abbrev pub IsLayoutBelow : ℕ → Layout → Type 0
IsLayoutBelow count layout.Scalar = Unit {0}
IsLayoutBelow count (layout.List a) = IsBoundBelow count a
IsLayoutBelow count (layout.Table a b) = IsBoundBelow count a × IsBoundBelow count b

-- the words of extents that were evaluated
abbrev pub words_in : Area → List ℤ
words_in area.Scalar = []
words_in (area.List a) = a ∷ []
words_in (area.Table a b) = a ∷ b ∷ []

-- ---- prepared units

-- the names are the dummies and the others, apart, and each has the layout that its unit declares
pub record IsLaidOut (r : Routine) : Type 0 where
  pub others : List (List ℕ)
  pub names : r.names ≡ r.unit.now.dummies ++ others
  pub apart : AreApart r.names
  pub each : length r.names ≡ length r.layouts.items
  pub declares : (i : ℕ) (d : Layout) → i < length r.names → declared (procedure_of r.unit.now).declarations (plain (slice_index_or r.names i [])) ≡ extents_at r.names (slice_index_or r.layouts.items i d)
  pub below : (i : ℕ) (d : Layout) → i < length r.names → IsLayoutBelow (length r.names) (slice_index_or r.layouts.items i d)
  -- where it is said to be plain, all are scalars
  pub scalars : r.is_plain ≡ true → (i : ℕ) (d : Layout) → i < length r.names → slice_index_or r.layouts.items i d ≡ layout.Scalar
  pub elsewhere : (x : List ℕ) → has_name x r.names ≡ false → declared (procedure_of r.unit.now).declarations (plain x) ≡ []

-- the store at the entry of a unit that gets these actuals
abbrev pub entered_with : {C : Type 0} → Numbers C → Routine → List (Actual C) → Store C
entered_with numbers r got = entry_store numbers r.unit.now.dummies got

-- the shapes of its variables there
abbrev pub shapes_with : {C : Type 0} → Numbers C → Routine → List (Actual C) → Var → Shape
shapes_with numbers r got x = shape_of (extents_of numbers (procedure_of r.unit.now) (entered_with numbers r got) x)

-- a slot has the shape of a variable at the entry, and holds its cells
pub record IsEntered {C : Type 0} (numbers : Numbers C) (r : Routine) (got : List (Actual C)) (i : ℕ) (v : Slot C) : Type 0 where
  pub shape : slot_shape v ≡ shapes_with numbers r got (var_at r.names i)
  pub cells : (j : ℕ) → j < size_of (slot_shape v) → entered_with numbers r got (var_at r.names i) j ≡ slice_index_or v.cells.items j (zero_in numbers)

-- whether a dummy of these extents fits its actual: a scalar always does
abbrev pub is_fit : List ℤ → Shape → Bool
is_fit zs sh = length zs == 0 || shape_fits zs sh

-- whether the dummies from the one of a number on fit
abbrev pub fit_from : {C : Type 0} → Numbers C → Routine → List (Actual C) → ℕ → Bool
fit_from numbers r got i = dummies_fit numbers (procedure_of r.unit.now) (entered_with numbers r got) (drop i r.unit.now.dummies) (drop i got)

-- ---- what is handed back

-- where a dummy is handed back to
abbrev pub place_of : {C : Type 0} → List (List ℕ) → CodeActual C → Place
place_of names (actual.Whole i) = whole (var_at names i)
place_of names (actual.Cell i j w) = cell (var_at names i) j
place_of names (actual.Word w) = nowhere

-- whether the variable of a number is a dummy that is written
abbrev pub is_written_at : Routine → ℕ → Bool
is_written_at r i = nat_lt i (length r.unit.now.dummies) && (nat_lt i (length r.writes.now) && slice_index_or r.writes.now i false)

-- the caller's store with the variable of a number copied out to a place, where it is a dummy that is written
abbrev pub handed : {C : Type 0} → Routine → ℕ → Place → Store C → Store C → Store C
handed r i p t s = if is_written_at r i then put p (t (var_at r.names i)) s else s
