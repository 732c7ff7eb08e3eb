-- Held: what a machine has in hand of a run on any numbers, and how it ends.
use Rattle.std.specs.Prelude.{◌≡◌, ◌<◌, ◌≤◌, ℕ, ◌+◌, ◌-◌, ℤ, pos, List, ◌++◌, map, length, reverse, Result, Ok, Err, Some}
use Rattle.adj_tree.specs.declared.value.Trap.{Trap as CodeTrap}
use Rattle.adj_tree.specs.Code.{Var, Term, Mark}
use Rattle.def_meaning.specs.Trap.{Trap, then_ok}
use Rattle.def_meaning.specs.Numbers.{Numbers}
use Rattle.def_meaning.specs.Store.{Shape, Store}
use Rattle.def_meaning.specs.Run.{trips, with_turn}
use Rattle.def_meaning.specs.Runtime.{steps_of, snapshots_of, actions_of, action_at, kind_of, lower_of, upper_of}
use Rattle.adj_revolve.specs.declared.machine.Action.{Action}
use Rattle.def_meaning.specs.Event.{Event}
use Rattle.def_meaning.specs.Log.{log_from, log_of}
use Rattle.def_meaning.specs.Value.{Setting, value}
use Rattle.def_meaning.specs.Scene.{Scene, Stand, Outcome, Done, Trapped, More, Full, Go, IsMore}
use Rattle.adj_interp.specs.declared.stop.Stop.{Stop}
use Rattle.adj_interp.specs.declared.stop.Stop.TheVariants as stop
use Rattle.adj_interp.specs.declared.machine.Machine.{Machine}
use Rattle.adj_interp.specs.Tallied.{Tallied}
use Rattle.adj_interp_frame.specs.Framed.{trap_of}
use Rattle.adj_interp_frame.specs.Shown.{on_numbers, Shows}
use Rattle.adj_interp_frame.specs.Suited.{counts_in, HasOneCell}

-- whatever happens later is counted on from what was counted of what happened, the last first
abbrev pub Tells : Tallied → List Event → Type 0
Tells c es = (later : List Event) → log_of (reverse es ++ later) ≡ log_from c.begun c.log later

-- an entry of a unit in a run on some numbers: the shapes of its variables, how many words the tape can hold, its level, and how many
-- reversals were open before
pub record Entry {C : Type 0} (numbers : Numbers C) : Type 0 where
  pub shape : Var → Shape
  pub room : ℕ
  pub level : ℕ
  pub base : ℕ

abbrev pub setting_at : {C : Type 0} {numbers : Numbers C} → Entry numbers → Setting C
setting_at {numbers = numbers} e = on_numbers numbers e.shape (Some e.room) e.level

-- a machine has a scene of an entry in hand
pub record Holds {C : Type 0} {numbers : Numbers C} (e : Entry numbers) (m : Machine C) (s : Scene C) : Type 0 where
  pub room : m.tape.room ≡ e.room
  pub level : m.level ≡ e.level
  pub base : m.base ≡ e.base
  pub shown : Shows numbers m.frame.names.now m.frame.slots.items e.shape s.store
  pub tape : s.tape ≡ m.tape.words
  pub opened : s.opened + m.base ≡ length m.tally.begun
  pub told : Tells m.tally s.events

-- a variable has one cell in the entry that a machine has in hand
abbrev pub OneCelled : {C : Type 0} → Machine C → Var → Type 0
OneCelled m = HasOneCell m.frame.names.now (counts_in m.frame.slots.items)

-- a machine stands as a run stands that stopped
pub record Stands {C : Type 0} (numbers : Numbers C) (m : Machine C) (w : Stand) : Type 0 where
  pub tape : w.tape ≡ map numbers.shown m.tape.words
  pub log : log_of w.events ≡ m.tally.log

-- what a run comes to with any number of statements
abbrev pub Runs : Type 0 → Type 0
Runs C = ℕ → Outcome (Scene C)

-- a run that has `before` statements uses all but `after` of them: with fewer than it uses there is more to do, and with these and
-- any number more it comes to what is asked of that number
pub record Uses {R : Type 0} (o : ℕ → Outcome R) (before after : ℕ) (P : ℕ → Outcome R → Type 0) : Type 0 where
  pub within : after ≤ before
  pub early : (j : ℕ) → j < before - after → IsMore (o j)
  pub ends : (j : ℕ) → P j (o (before - after + j))

-- a run comes to what goes on from a scene that a machine has in hand, with the statements that the machine has left
pub record Reaches {C : Type 0} {numbers : Numbers C} (e : Entry numbers) (o : Runs C) (before : ℕ) (go : Go C) (m : Machine C) : Type 0 where
  pub scene : Scene C
  pub holds : Holds e m scene
  pub uses : Uses o before m.left (λ j z. z ≡ go scene j)

-- a run trapped at a line, and the machine stands so
abbrev pub IsTrapped : {C : Type 0} → Numbers C → Machine C → CodeTrap → ℕ → Outcome (Scene C) → Type 0
IsTrapped numbers m t line (Trapped d l w) = (d ≡ trap_of t) × (l ≡ line) × Stands numbers m w
IsTrapped numbers m t line (Done s k) = ⊥
IsTrapped numbers m t line (More w) = ⊥
IsTrapped numbers m t line (Full w) = ⊥

-- a run has more to do, and the machine stands so
abbrev pub HasMore : {C : Type 0} → Numbers C → Machine C → Outcome (Scene C) → Type 0
HasMore numbers m (More w) = Stands numbers m w
HasMore numbers m (Done s k) = ⊥
HasMore numbers m (Trapped t line w) = ⊥
HasMore numbers m (Full w) = ⊥

-- a run found the tape full, and the machine stands so
abbrev pub IsFull : {C : Type 0} → Numbers C → Machine C → Outcome (Scene C) → Type 0
IsFull numbers m (Full w) = Stands numbers m w
IsFull numbers m (Done s k) = ⊥
IsFull numbers m (Trapped t line w) = ⊥
IsFull numbers m (More w) = ⊥

-- a machine that had `before` statements ends with a result as a run does, after as many statements, unless its memory ran out
abbrev pub Ends : {C : Type 0} {numbers : Numbers C} → Entry numbers → Runs C → ℕ → Result (Unit {0}) Stop → Machine C → Type 0
Ends e o before (Ok done) m = Reaches e o before (λ s k. Done s k) m
Ends {numbers = numbers} e o before (Err (stop.Trap t line)) m = Uses o before m.left (λ j. IsTrapped numbers m t line)
Ends {numbers = numbers} e o before (Err stop.Budget) m = HasMore numbers m (o before)
Ends {numbers = numbers} e o before (Err stop.TapeFull) m = Uses o before m.left (λ j. IsFull numbers m)
Ends e o before (Err stop.Memory) m = Unit {0}

-- the statements that a machine used that had so many and has `after` left: all of them where there is more to do
abbrev pub used_at : ℕ → ℕ → Result (Unit {0}) Stop → ℕ
used_at before after (Ok done) = before - after
used_at before after (Err (stop.Trap t line)) = before - after
used_at before after (Err stop.Budget) = before
used_at before after (Err stop.TapeFull) = before - after
used_at before after (Err stop.Memory) = before - after

-- a value is found as it is defined, or its trap at the line
abbrev pub Finds : {A : Type 0} → ℕ → Result A Trap → Result A Stop → Type 0
Finds line r (Ok a) = r ≡ Ok a
Finds line r (Err (stop.Trap t l)) = (r ≡ Err (trap_of t)) × (l ≡ line)
Finds line r (Err stop.Budget) = ⊥
Finds line r (Err stop.TapeFull) = ⊥
Finds line r (Err stop.Memory) = ⊥

-- what was found, or a stop by its trap at the line
abbrev pub stopped_at : {A : Type 0} → ℕ → Result A CodeTrap → Result A Stop
stopped_at line (Ok a) = Ok a
stopped_at line (Err t) = Err (stop.Trap t line)

-- first value, step and number of turns of a DO, as words
abbrev pub bounds_in : {C : Type 0} → Setting C → Term → Term → Term → Mark → Store C → Result (ℤ × ℤ × ℕ) Trap
bounds_in n first last by mark s =
    then_ok (value n first s) (λ a. then_ok (value n last s) (λ b. then_ok (value n by s) (λ c. then_ok (trips mark (n.numbers.shown a) (n.numbers.shown b) (n.numbers.shown c)) (λ m. Ok (n.numbers.shown a, n.numbers.shown c, m)))))

-- ---- schedules

-- the steps and snapshots of a schedule
abbrev pub plan_in : {C : Type 0} → Setting C → Term → Term → Store C → Result (ℕ × ℕ) Trap
plan_in n l m s = then_ok (value n l s) (λ u. then_ok (value n m s) (λ v. then_ok (steps_of (n.numbers.shown u)) (λ a. then_ok (snapshots_of (n.numbers.shown v)) (λ b. Ok (a, b)))))

-- the action of a schedule that is asked for
abbrev pub action_in : {C : Type 0} → Setting C → Term → Term → Term → Store C → Result Action Trap
action_in n l m e s = then_ok (value n l s) (λ u. then_ok (value n m s) (λ v. then_ok (value n e s) (λ w. then_ok (actions_of (n.numbers.shown u) (n.numbers.shown v)) (λ list. action_at (n.numbers.shown w) list))))

-- the scene with three variables set to the kind and the places of an action
abbrev pub given_in : {C : Type 0} → Setting C → Var → Var → Var → Action → Scene C → Scene C
given_in n x y z a s = with_turn n z (pos (upper_of a)) (with_turn n y (pos (lower_of a)) (with_turn n x (pos (kind_of a)) s))
