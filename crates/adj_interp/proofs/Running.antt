-- A machine at the start of a run of a unit, and at its end.
use Rattle.std.proofs.Common.{◌≡◌, ◌≤◌, ℕ, ◌+◌, ◌-◌, List, [], length, refl, sym, ap, subst, ◌∙◌, arith}
use Rattle.std.specs.Prelude.{reverse, Some, Ok, Err}
use Rattle.adj_tree.specs.Code.{Procedure}
use Rattle.adj_tape.specs.Held.{Held}
use Rattle.def_meaning.specs.Event.{Enter}
use Rattle.def_meaning.specs.Numbers.{Numbers}
use Rattle.def_meaning.specs.Store.{scalar, Store}
use Rattle.def_meaning.specs.Value.{Setting}
use Rattle.def_meaning.specs.Scene.{Scene, Outcome, Done, then_do}
use Rattle.def_meaning.specs.Run.{run}
use Rattle.def_meaning.specs.Units.{Slot, Output, calls_of, input_store, setting_in, entered, dummy_shapes, dummy_slots, run_unit}
use Rattle.law_meaning.proofs.Depths.{deep_enough}
use Rattle.adj_interp_frame.specs.Shown.{Shows}
use Rattle.adj_interp.specs.declared.log.Log.{Log}
use Rattle.adj_interp.specs.declared.stop.Stop.{Stop}
use Rattle.adj_interp.specs.declared.machine.Machine.{Machine}
use Rattle.adj_interp.specs.Tallied.{Tallied}
use Rattle.adj_interp.specs.Held.{Tells, Entry, setting_at, Holds, Runs, Ends, used_at}
use Rattle.adj_interp.specs.Entered.{closed}
use Rattle.adj_interp.specs.Concludes.{counted_in, Counts}
use Rattle.adj_interp.specs.Ended.{EndsWith}
use Rattle.adj_interp.specs.Inputs.{input_shape}
use Rattle.adj_interp.proofs.Driving.{told_next}
use Rattle.adj_interp.proofs.Concluding.{concludes_stop, concludes_done, counts_stop, counts_done}

none_more : (n : ℕ) → 0 + n ≡ n
none_more n = omega arith

module _ {C : Type 0} (numbers : Numbers C) where
  module _ (us : List Procedure) (u : Procedure) (input : List (Slot C)) (held : Held C) (budget : ℕ) where
    -- the store, the entry and the scene at the start
    abbrev pub first_store : Store C
    first_store = input_store numbers u input

    abbrev pub first_entry : Entry numbers
    first_entry = record { shape = input_shape numbers u first_store; room = held.room; level = 1; base = 0 }

    abbrev outside : Setting C
    outside = record { numbers = numbers; shape = λ x. scalar; room = Some held.room; level = 0 }

    abbrev pub first_scene : Scene C
    first_scene = entered outside u (record { store = first_store; tape = held.words; opened = 0; events = [] })

    abbrev pub unit_outcome : Runs C
    unit_outcome k = then_do (run (calls_of us budget) (setting_at first_entry) u.body first_scene k) (closed (setting_at first_entry) u.line)

    abbrev whole : ℕ → Outcome (Output C)
    whole = run_unit numbers us u input held.words (Some held.room)

    -- what is given of a scene in which the unit is done, with so many statements
    abbrev given : ℕ → Scene C → ℕ → Outcome (Output C)
    given k s left = Done (record { slots = dummy_slots (setting_in outside u first_store) u s.store; tape = s.tape; events = reverse s.events }) (k - left)

    -- no chain of calls is longer than the statements, so a run with fewer of them may call as deep as that with all
    alike : (k : ℕ) → k ≤ budget → whole k ≡ then_do (unit_outcome k) (given k)
    alike k le = ap (λ o. then_do (then_do o (closed (setting_at first_entry) u.line)) (given k)) (deep_enough us k budget le (setting_at first_entry) u.body first_scene k (omega arith))

    -- a machine with the first entry in hand
    pub starts : (m : Machine C) → m.tape ≡ held → m.level ≡ 1 → m.base ≡ 0 → m.tally ≡ record { begun = []; log = record { reversals = 0; advances = 0; height = 0 } } → Shows numbers m.frame.names.now m.frame.slots.items (input_shape numbers u first_store) first_store → Holds first_entry m first_scene
    starts m t l b c shown = record {
      room = ap (λ (z : Held C). z.room) t;
      level = l;
      base = b;
      shown = shown;
      tape = ap (λ (z : Held C). z.words) (sym t);
      opened = none_more m.base ∙ b ∙ sym (ap (λ (z : Tallied). length z.begun) c);
      told = subst (λ z. Tells z first_scene.events) (sym c) (told_next (record { begun = []; log = record { reversals = 0; advances = 0; height = 0 } }) (Enter u.name 1 (length held.words) (dummy_shapes (setting_in outside u first_store) u)) [] (λ later. refl));
    }

    -- where it stops, so does the run
    pub stopped : {A : Type 0} (seen : A → List (Slot C)) (x : Stop) (m : Machine C) (log : Log) → Ends first_entry unit_outcome budget (Err x) m → counted_in log ≡ m.tally.log → EndsWith numbers seen (whole budget) (Err x) m.tape log
    stopped seen x m log h c = concludes_stop seen first_entry unit_outcome budget (given budget) x m log h c

    -- where it is done, the run is done with the dummies
    pub done : {A : Type 0} (seen : A → List (Slot C)) (values : A) (m : Machine C) (log : Log) → Ends first_entry unit_outcome budget (Ok tt) m → ((s : Scene C) → Holds first_entry m s → seen values ≡ dummy_slots (setting_in outside u first_store) u s.store) → counted_in log ≡ m.tally.log → log.used ≡ budget - m.left → EndsWith numbers seen (whole budget) (Ok values) m.tape log
    done seen values m log h v c k = concludes_done seen first_entry unit_outcome (λ s. dummy_slots (setting_in outside u first_store) u s.store) budget values m log h v c k

    -- and it uses as many statements
    pub stopped_used : (A : Type 0) (x : Stop) (m : Machine C) (used : ℕ) → Ends first_entry unit_outcome budget (Err x) m → used ≡ used_at budget m.left (Err x) → Counts {A = A} whole budget (Err x) used
    stopped_used A x m used h u = counts_stop unit_outcome whole given budget alike first_entry m used A x h u

    pub done_used : {A : Type 0} (values : A) (m : Machine C) (used : ℕ) → Ends first_entry unit_outcome budget (Ok tt) m → used ≡ budget - m.left → Counts {A = A} whole budget (Ok values) used
    done_used values m used h u = counts_done unit_outcome whole given budget alike first_entry m used values (λ s j more. more) h u
