-- Rooms: a run on a tape that can hold so many words, beside the run on a tape that can hold any number. (docs/RUNNING.md, "Runtime calls")
use Rattle.std.specs.Prelude.{◌≡◌, ℕ, List, Option, None}
use Rattle.adj_tree.specs.Code.{Procedure}
use Rattle.def_meaning.specs.Numbers.{Numbers}
use Rattle.def_meaning.specs.Scene.{Outcome, Done, Trapped, More, Full}
use Rattle.def_meaning.specs.Units.{Slot, run_unit}

-- the run found the tape full
abbrev pub IsFull : {R : Type 0} → Outcome R → Type 0
IsFull (Done a k) = ⊥
IsFull (Trapped t line w) = ⊥
IsFull (More w) = ⊥
IsFull (Full w) = Unit {0}

-- a run that doesn't find its tape full is the run on a tape without a limit
abbrev pub RoomIsEnough : Type 0 → Type 0
RoomIsEnough C = (n : Numbers C) (units : List Procedure) (u : Procedure) (input : List (Slot C)) (tape : List C) (room : Option ℕ) (k : ℕ) →
    (IsFull (run_unit n units u input tape room k) → ⊥) → run_unit n units u input tape room k ≡ run_unit n units u input tape None k
