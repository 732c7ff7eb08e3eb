-- The answer to a run that concludes.
use Rattle.std.proofs.Common.{◌≡◌, ℕ, List, [], length, map, refl, sym, ap, subst, ◌∙◌, Some}
use Rattle.std.specs.Prelude.{ℤ, ◌-◌, reverse, Result, Ok, Err}
use Rattle.std.specs.List.{slice_get}
use Rattle.std.proofs.lemmas.List.{length-map}
use Rattle.adj_tree.specs.Code.{plain, Procedure}
use Rattle.adj_tree.specs.declared.value.Slot.{Slot as CodeSlot}
use Rattle.adj_tree.specs.declared.value.Trap.{Trap as CodeTrap}
use Rattle.adj_tape.specs.Held.{Held}
use Rattle.def_meaning.specs.Numbers.{words}
use Rattle.def_meaning.specs.Scene.{Scene, Outcome, Done, Trapped, More, Full, then_do}
use Rattle.def_meaning.specs.Store.{scalar}
use Rattle.def_meaning.specs.Units.{Output, Slot, slot_of, setting_in, input_store, unit_run, calls_of, dummy_slots, run_unit}
use Rattle.def_meaning.specs.Value.{Setting}
use Rattle.adj_interp.specs.declared.log.Log.{Log}
use Rattle.adj_interp.specs.declared.stop.Stop.{Stop}
use Rattle.adj_interp.specs.declared.stop.Stop.TheVariants as stop
use Rattle.adj_interp.specs.Concludes.{Concludes, slot_seen}
use Rattle.adj_interp_frame.specs.Framed.{trap_of}
use Rattle.adj_tool_answer.specs.Answer.{Answer}
use Rattle.adj_tool_answer.specs.EndingViews.{stop_answer}
use Rattle.adj_tool_answer.specs.Endings.{Asked, done, trapped, used_up, tape_full}
use Rattle.adj_tool_run.specs.Running.{ended, run_asked}

module _ (r : Asked) (names : List (List ℕ)) (tape : Held ℤ) (log : Log) where
  pub when_done : (o : Outcome (Output ℤ)) (values : List CodeSlot) → Concludes o (Ok values) tape log → done names (map slot_seen values) (length tape.words) log.used ≡ ended r names o
  when_done (Done out used) values h = λ i. done names (h.0 i) (length (sym h.1 i)) (h.2 i)
  when_done (Trapped t line w) values h = absurd h
  when_done (More w) values h = absurd h
  when_done (Full w) values h = absurd h

  when_trapped : (o : Outcome (Output ℤ)) (c : CodeTrap) (l : ℕ) → Concludes o (Err (stop.Trap c l)) tape log → trapped (trap_of c) l ≡ ended r names o
  when_trapped (Done out used) c l h = absurd h
  when_trapped (Trapped t line w) c l h = λ i. trapped (sym h.0 i) (sym h.1 i)
  when_trapped (More w) c l h = absurd h
  when_trapped (Full w) c l h = absurd h

  when_used_up : (o : Outcome (Output ℤ)) → Concludes o (Err stop.Budget) tape log → used_up r.budget ≡ ended r names o
  when_used_up (Done out used) h = absurd h
  when_used_up (Trapped t line w) h = absurd h
  when_used_up (More w) h = refl
  when_used_up (Full w) h = absurd h

  when_full : (o : Outcome (Output ℤ)) → Concludes o (Err stop.TapeFull) tape log → tape_full r.room ≡ ended r names o
  when_full (Done out used) h = absurd h
  when_full (Trapped t line w) h = absurd h
  when_full (More w) h = absurd h
  when_full (Full w) h = refl

  -- a run that stopped, whatever its dummies are called
  pub when_stopped : (o : Outcome (Output ℤ)) (e : Stop) (a : Answer) → Concludes o (Err e) tape log → Some a ≡ stop_answer r e → a ≡ ended r names o
  when_stopped o (stop.Trap c l) a h is = let same : a ≡ trapped (trap_of c) l = cc in same ∙ when_trapped o c l h
  when_stopped o stop.Budget a h is = let same : a ≡ used_up r.budget = cc in same ∙ when_used_up o h
  when_stopped o stop.TapeFull a h is = let same : a ≡ tape_full r.room = cc in same ∙ when_full o h
  when_stopped o stop.Memory a h is = absurd cc

-- a run that is done gives a slot for each dummy
slot_each : (u : Procedure) (o : Outcome (Output ℤ)) (values : List CodeSlot) (tape : Held ℤ) (log : Log) → Concludes o (Ok values) tape log → ((out : Output ℤ) (used : ℕ) → o ≡ Done out used → length out.slots ≡ length u.dummies) → length u.dummies ≡ length values
slot_each u (Done out used) values tape log h many = sym (many out used refl) ∙ ap length (sym h.0) ∙ length-map values slot_seen
slot_each u (Trapped t line w) values tape log h many = absurd h
slot_each u (More w) values tape log h many = absurd h
slot_each u (Full w) values tape log h many = absurd h

-- the slots of what goes on from the end of a unit
from_end : (u : Procedure) (go : Scene ℤ → ℕ → Output ℤ) (count : ℕ → ℕ) → ((s : Scene ℤ) (k : ℕ) → length (go s k).slots ≡ length u.dummies) → (o : Outcome (Scene ℤ)) (out : Output ℤ) (used : ℕ) → then_do o (λ s k. Done (go s k) (count k)) ≡ Done out used → length out.slots ≡ length u.dummies
from_end u go count each (Done s k) out used h = let same : go s k ≡ out = cc in ap (λ (z : Output ℤ). length z.slots) (sym same) ∙ each s k
from_end u go count each (Trapped t line w) out used h = absurd cc
from_end u go count each (More w) out used h = absurd cc
from_end u go count each (Full w) out used h = absurd cc

module _ (r : Asked) (ps : List Procedure) (u : Procedure) (input : List (Slot ℤ)) where
  abbrev outside : Setting ℤ
  outside = record { numbers = words; shape = λ x. scalar; room = Some r.room; level = 0 }

  abbrev start : Scene ℤ
  start = record { store = input_store words u input; tape = []; opened = 0; events = [] }

  abbrev gives : Scene ℤ → ℕ → Output ℤ
  gives s k = record { slots = dummy_slots (setting_in outside u start.store) u s.store; tape = s.tape; events = reverse s.events }

  -- as many values as dummies
  pub slots_counted : (values : List CodeSlot) (tape : Held ℤ) (log : Log) → Concludes (run_asked r ps u input) (Ok values) tape log → length u.dummies ≡ length values
  slots_counted values tape log h =
      slot_each u (run_asked r ps u input) values tape log h
      (λ out used e. from_end u gives (λ k. r.budget - k) (λ s k. length-map u.dummies (λ d. slot_of ((setting_in outside u start.store).shape (plain d)) (s.store (plain d)))) (unit_run (calls_of ps r.budget) outside u u.line start r.budget) out used e)

  -- a run from a tape that is empty and has the room that is asked for
  from_empty : (held : List ℤ) (room : ℕ) → held ≡ [] → room ≡ r.room → (result : Result (List CodeSlot) Stop) (tape : Held ℤ) (log : Log) → Concludes (run_unit words ps u input held (Some room) r.budget) result tape log → Concludes (run_asked r ps u input) result tape log
  from_empty held room empty taken result tape log h = subst (λ o. Concludes o result tape log) (λ i. run_unit words ps u input (empty i) (Some (taken i)) r.budget) h

-- ---- the answer to a run of the unit of a number, from a tape that is empty and has the room that is asked for

module _ (r : Asked) (ps : List Procedure) (n : ℕ) (input : List (Slot ℤ)) (held : List ℤ) (room : ℕ) (empty : held ≡ []) (taken : room ≡ r.room) (result : Result (List CodeSlot) Stop) (tape : Held ℤ) (log : Log) where
  -- whatever unit it is, its run concludes so
  pub concluded : ((u : Procedure) → slice_get ps n ≡ Some u → Concludes (run_unit words ps u input held (Some room) r.budget) result tape log) → (u : Procedure) → slice_get ps n ≡ Some u → Concludes (run_asked r ps u input) result tape log
  concluded ends u at = from_empty r ps u input held room empty taken result tape log (ends u at)
