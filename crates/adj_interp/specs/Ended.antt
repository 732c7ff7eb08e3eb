-- Ended: how a run of a unit ends over any numbers, with what stands on the tape and in the log.
use Rattle.std.specs.Prelude.{◌≡◌, ℕ, List, map, Result, Ok, Err}
use Rattle.adj_tree.specs.declared.value.Trap.{Trap as CodeTrap}
use Rattle.def_meaning.specs.Log.{log_of}
use Rattle.def_meaning.specs.Numbers.{Numbers}
use Rattle.def_meaning.specs.Scene.{Stand, Outcome, Done, Trapped, More, Full}
use Rattle.def_meaning.specs.Units.{Slot, Output}
use Rattle.adj_tape.specs.Held.{Held}
use Rattle.adj_interp_frame.specs.Framed.{trap_of}
use Rattle.adj_interp.specs.declared.log.Log.{Log}
use Rattle.adj_interp.specs.declared.stop.Stop.{Stop}
use Rattle.adj_interp.specs.declared.stop.Stop.TheVariants as stop
use Rattle.adj_interp.specs.Concludes.{counted_in}

-- the tape and the log stand as a run stands that stopped, whose tape is told by its words
abbrev pub StandsWith : {C : Type 0} → Numbers C → Stand → Held C → Log → Type 0
StandsWith numbers w tape log = (w.tape ≡ map numbers.shown tape.words) × (log_of w.events ≡ counted_in log)

-- a run is done with these slots
abbrev pub EndsDone : {C : Type 0} → Outcome (Output C) → List (Slot C) → Held C → Log → Type 0
EndsDone (Done out used) slots tape log = (slots ≡ out.slots) × (out.tape ≡ tape.words) × (log.used ≡ used) × (log_of out.events ≡ counted_in log)
EndsDone (Trapped t line w) slots tape log = ⊥
EndsDone (More w) slots tape log = ⊥
EndsDone (Full w) slots tape log = ⊥

-- a run trapped at a line
abbrev pub EndsTrapped : {C : Type 0} → Numbers C → Outcome (Output C) → CodeTrap → ℕ → Held C → Log → Type 0
EndsTrapped numbers (Done out used) t line tape log = ⊥
EndsTrapped numbers (Trapped d l w) t line tape log = (d ≡ trap_of t) × (l ≡ line) × StandsWith numbers w tape log
EndsTrapped numbers (More w) t line tape log = ⊥
EndsTrapped numbers (Full w) t line tape log = ⊥

-- a run has more to do
abbrev pub EndsEarly : {C : Type 0} → Numbers C → Outcome (Output C) → Held C → Log → Type 0
EndsEarly numbers (Done out used) tape log = ⊥
EndsEarly numbers (Trapped d l w) tape log = ⊥
EndsEarly numbers (More w) tape log = StandsWith numbers w tape log
EndsEarly numbers (Full w) tape log = ⊥

-- a run found the tape full
abbrev pub EndsFull : {C : Type 0} → Numbers C → Outcome (Output C) → Held C → Log → Type 0
EndsFull numbers (Done out used) tape log = ⊥
EndsFull numbers (Trapped d l w) tape log = ⊥
EndsFull numbers (More w) tape log = ⊥
EndsFull numbers (Full w) tape log = StandsWith numbers w tape log

-- a run ends with a result whose value is seen as slots, and the tape and the log are as it leaves them, unless memory ran out
abbrev pub EndsWith : {A C : Type 0} → Numbers C → (A → List (Slot C)) → Outcome (Output C) → Result A Stop → Held C → Log → Type 0
EndsWith numbers seen o (Ok a) tape log = EndsDone o (seen a) tape log
EndsWith numbers seen o (Err (stop.Trap t line)) tape log = EndsTrapped numbers o t line tape log
EndsWith numbers seen o (Err stop.Budget) tape log = EndsEarly numbers o tape log
EndsWith numbers seen o (Err stop.TapeFull) tape log = EndsFull numbers o tape log
EndsWith numbers seen o (Err stop.Memory) tape log = Unit {0}
