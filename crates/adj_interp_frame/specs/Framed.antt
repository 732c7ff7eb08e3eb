-- Framed: the store and the setting that the slots of an entry are, over any numbers.
use Rattle.std.specs.Prelude.{◌≡◌, ℕ, ◌<◌, ℤ, pos, List, [], ◌∷◌, length, slice_index_or, Result, Ok, Err, Option, Some, None, if◌then◌else◌}
use Rattle.adj_tree.specs.Code.{Var, plain, shadow, helper, name_eq}
use Rattle.adj_tree.specs.declared.value.Trap.{Trap as CodeTrap}
use Rattle.adj_tree.specs.declared.value.Trap.TheVariants as code
use Rattle.def_meaning.specs.Trap.{Trap, division, index, step_trap, shape_trap, tape_trap, schedule_trap, power_trap}
use Rattle.def_meaning.specs.Numbers.{Numbers}
use Rattle.def_meaning.specs.Store.{Shape, scalar, size_of, Store}
use Rattle.def_meaning.specs.Value.{Setting}
use Rattle.def_meaning.specs.Apart.{AreApart}
use Rattle.adj_interp_frame.specs.declared.slot.Slot.{Slot}

-- ---- traps

abbrev pub trap_of : CodeTrap → Trap
trap_of code.Division = division
trap_of code.Index = index
trap_of code.Step = step_trap
trap_of code.Shape = shape_trap
trap_of code.Tape = tape_trap
trap_of code.Schedule = schedule_trap
trap_of code.Power = power_trap

-- a result of the code, with its trap as it is defined
abbrev pub result_of : {A : Type 0} → Result A CodeTrap → Result A Trap
result_of (Ok a) = Ok a
result_of (Err t) = Err (trap_of t)

-- a word that was found as a number, or a division by 0
abbrev pub number_found : {C : Type 0} → Numbers C → Option ℤ → Result C Trap
number_found numbers (Some z) = Ok (numbers.of_word z)
number_found numbers None = Err division

-- ---- slots

abbrev pub slot_shape : {C : Type 0} → Slot C → Shape
slot_shape v = record { rows = v.rows; cols = v.cols }

-- a scalar has one cell and each array its elements
abbrev pub IsSlot : {C : Type 0} → Slot C → Type 0
IsSlot v = length v.cells.items ≡ size_of (slot_shape v)

-- what a name's slot says, and something else for a name that has none
abbrev pub in_slot : {A C : Type 0} → A → (Slot C → A) → List (List ℕ) → List (Slot C) → List ℕ → A
in_slot other f [] vs x = other
in_slot other f (y ∷ ys) [] x = other
in_slot other f (y ∷ ys) (v ∷ vs) x = if name_eq x y then f v else in_slot other f ys vs x

-- the same for a variable: those of a text alone have slots
abbrev pub in_slots : {A C : Type 0} → A → (Slot C → A) → List (List ℕ) → List (Slot C) → Var → A
in_slots other f names vs (plain x) = in_slot other f names vs x
in_slots other f names vs (shadow x) = other
in_slots other f names vs (helper r k) = other

-- the names are apart, each has a slot, and each slot has its cells
pub record IsFrame {C : Type 0} (names : List (List ℕ)) (vs : List (Slot C)) : Type 0 where
  pub apart : AreApart names
  pub each : length names ≡ length vs
  pub sized : (i : ℕ) (d : Slot C) → i < length vs → IsSlot (slice_index_or vs i d)

-- the shapes of variables
abbrev pub shapes_in : {C : Type 0} → List (List ℕ) → List (Slot C) → Var → Shape
shapes_in names vs x = in_slots scalar slot_shape names vs x

-- the number of the word 0
abbrev pub zero_in : {C : Type 0} → Numbers C → C
zero_in numbers = numbers.of_word (pos 0)

-- what their cells hold, and 0 where there is none
abbrev pub store_in : {C : Type 0} → Numbers C → List (List ℕ) → List (Slot C) → Store C
store_in numbers names vs x j = in_slots (zero_in numbers) (λ v. slice_index_or v.cells.items j (zero_in numbers)) names vs x

-- the setting of an entry, apart from the room of the tape and the level
abbrev pub setting_in_slots : {C : Type 0} → Numbers C → List (List ℕ) → List (Slot C) → Setting C
setting_in_slots numbers names vs = record { numbers = numbers; shape = shapes_in names vs; room = None; level = 0 }
