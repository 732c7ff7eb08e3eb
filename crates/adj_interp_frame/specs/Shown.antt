-- Shown: what the slots of an entry say of a store and a setting of a run. Cells outside a variable's shape are never looked at.
use Rattle.std.specs.Prelude.{◌≡◌, ℕ, ◌<◌, List, Option}
use Rattle.adj_tree.specs.Code.{Var, Term, Terms, Test}
use Rattle.def_meaning.specs.Numbers.{Numbers}
use Rattle.def_meaning.specs.Store.{Shape, size_of, Store}
use Rattle.def_meaning.specs.Value.{Setting, value, target, holds}
use Rattle.adj_interp_frame.specs.declared.slot.Slot.{Slot}
use Rattle.adj_interp_frame.specs.Framed.{shapes_in, store_in, setting_in_slots}

-- a setting of a run on numbers
abbrev pub on_numbers : {C : Type 0} → Numbers C → (Var → Shape) → Option ℕ → ℕ → Setting C
on_numbers numbers shape room level = record { numbers = numbers; shape = shape; room = room; level = level }

-- each variable has the shape of its slot, and each of its cells holds what the slot's does
pub record Shows {C : Type 0} (numbers : Numbers C) (names : List (List ℕ)) (vs : List (Slot C)) (shape : Var → Shape) (s : Store C) : Type 0 where
  pub shapes : (x : Var) → shape x ≡ shapes_in names vs x
  pub cells : (x : Var) (j : ℕ) → j < size_of (shape x) → s x j ≡ store_in numbers names vs x j

-- expressions, subscripts and conditions have the values in such a store that they have in the slots
pub record SeesSlots {C : Type 0} (numbers : Numbers C) (names : List (List ℕ)) (vs : List (Slot C)) (n : Setting C) (s : Store C) : Type 0 where
  pub values : (e : Term) → value n e s ≡ value (setting_in_slots numbers names vs) e (store_in numbers names vs)
  pub targets : (x : Var) (subs : Terms) → target n x subs s ≡ target (setting_in_slots numbers names vs) x subs (store_in numbers names vs)
  pub conditions : (t : Test) → holds n t s ≡ holds (setting_in_slots numbers names vs) t (store_in numbers names vs)

-- a run looks at nothing that slots don't show
abbrev pub ShownIsSeen : {C : Type 0} → Numbers C → Type 0
ShownIsSeen {C} numbers = (names : List (List ℕ)) (vs : List (Slot C)) (shape : Var → Shape) (room : Option ℕ) (level : ℕ) (s : Store C) → Shows numbers names vs shape s → SeesSlots numbers names vs (on_numbers numbers shape room level) s
