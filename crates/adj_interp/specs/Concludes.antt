-- Concludes: how a run of a unit on an input ends, with what stands on the tape and in the log, and how many statements it uses.
use Rattle.std.specs.Prelude.{◌≡◌, ◌<◌, ◌≤◌, ℕ, ℤ, List, map, Result, Ok, Err}
use Rattle.adj_tree.specs.declared.value.Slot.{Slot as CodeSlot}
use Rattle.adj_tree.specs.declared.value.Trap.{Trap as CodeTrap}
use Rattle.def_meaning.specs.Log as meaning
use Rattle.def_meaning.specs.Log.{log_of}
use Rattle.def_meaning.specs.Scene.{Stand, Outcome, Done, Trapped, More, Full, IsMore}
use Rattle.def_meaning.specs.Units.{Slot, Output}
use Rattle.adj_tape.specs.Held.{Held}
use Rattle.adj_interp_frame.specs.Framed.{trap_of}
use Rattle.adj_interp.specs.declared.log.Log.{Log}
use Rattle.adj_interp.specs.declared.stop.Stop.{Stop}
use Rattle.adj_interp.specs.declared.stop.Stop.TheVariants as stop

-- the value of a variable as it is defined
abbrev pub slot_seen : CodeSlot → Slot ℤ
slot_seen v = record { shape = record { rows = v.rows; cols = v.cols }; cells = v.cells }

-- what a log counts of reversals
abbrev pub counted_in : Log → meaning.Log
counted_in l = record { reversals = l.reversals; advances = l.advances; height = l.height }

-- the tape and the log stand as a run stands that stopped
abbrev pub StandsSo : Stand → Held ℤ → Log → Type 0
StandsSo w tape log = (w.tape ≡ tape.words) × (log_of w.events ≡ counted_in log)

-- a run is done with these values
abbrev pub IsDoneWith : Outcome (Output ℤ) → List CodeSlot → Held ℤ → Log → Type 0
IsDoneWith (Done out used) values tape log = (map slot_seen values ≡ out.slots) × (out.tape ≡ tape.words) × (log.used ≡ used) × (log_of out.events ≡ counted_in log)
IsDoneWith (Trapped t line w) values tape log = ⊥
IsDoneWith (More w) values tape log = ⊥
IsDoneWith (Full w) values tape log = ⊥

-- a run trapped at a line
abbrev pub TrapsWith : Outcome (Output ℤ) → CodeTrap → ℕ → Held ℤ → Log → Type 0
TrapsWith (Done out used) t line tape log = ⊥
TrapsWith (Trapped d l w) t line tape log = (d ≡ trap_of t) × (l ≡ line) × StandsSo w tape log
TrapsWith (More w) t line tape log = ⊥
TrapsWith (Full w) t line tape log = ⊥

-- a run has more to do
abbrev pub HasMoreWith : Outcome (Output ℤ) → Held ℤ → Log → Type 0
HasMoreWith (Done out used) tape log = ⊥
HasMoreWith (Trapped d l w) tape log = ⊥
HasMoreWith (More w) tape log = StandsSo w tape log
HasMoreWith (Full w) tape log = ⊥

-- a run found the tape full
abbrev pub IsFullWith : Outcome (Output ℤ) → Held ℤ → Log → Type 0
IsFullWith (Done out used) tape log = ⊥
IsFullWith (Trapped d l w) tape log = ⊥
IsFullWith (More w) tape log = ⊥
IsFullWith (Full w) tape log = StandsSo w tape log

-- a run ends with a result as it is defined, and the tape and the log are as it leaves them, unless memory ran out
abbrev pub Concludes : Outcome (Output ℤ) → Result (List CodeSlot) Stop → Held ℤ → Log → Type 0
Concludes o (Ok values) tape log = IsDoneWith o values tape log
Concludes o (Err (stop.Trap t line)) tape log = TrapsWith o t line tape log
Concludes o (Err stop.Budget) tape log = HasMoreWith o tape log
Concludes o (Err stop.TapeFull) tape log = IsFullWith o tape log
Concludes o (Err stop.Memory) tape log = Unit {0}

-- ---- the statements that were used

-- a run uses so many statements: with as many it comes to its end, and with fewer there is more to do
abbrev pub IsCount : {R : Type 0} → (ℕ → Outcome R) → ℕ → Type 0
IsCount run used = (IsMore (run used) → ⊥) × ((j : ℕ) → j < used → IsMore (run j))

-- so many statements are counted of a run that has a budget: those that it uses, or all of the budget where there is more to do
abbrev pub Counts : {A R : Type 0} → (ℕ → Outcome R) → ℕ → Result A Stop → ℕ → Type 0
Counts run budget (Ok a) used = (used ≤ budget) × IsCount run used
Counts run budget (Err (stop.Trap t line)) used = (used ≤ budget) × IsCount run used
Counts run budget (Err stop.Budget) used = used ≡ budget
Counts run budget (Err stop.TapeFull) used = (used ≤ budget) × IsCount run used
Counts run budget (Err stop.Memory) used = Unit {0}
