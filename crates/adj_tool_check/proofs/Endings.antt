-- Runs of the code end as those of the definitions.
use Rattle.std.proofs.Common.{◌≡◌, ℕ, List, map, refl, sym, ap, ◌∙◌, Some}
use Rattle.std.specs.Prelude.{ℤ, Result, Ok, Err}
use Rattle.adj_tree.specs.declared.value.Slot.{Slot as CodeSlot}
use Rattle.adj_tree.specs.declared.value.Trap.{Trap as CodeTrap}
use Rattle.adj_tape.specs.Held.{Held}
use Rattle.def_meaning.specs.Log as meaning
use Rattle.def_meaning.specs.Scene.{Outcome, Done, Trapped, More, Full}
use Rattle.def_meaning.specs.Units.{Slot, Output}
use Rattle.def_sweep.specs.Tangents.{cells_of, tangents_of}
use Rattle.adj_interp_frame.specs.Framed.{trap_of}
use Rattle.adj_interp.specs.declared.log.Log.{Log}
use Rattle.adj_interp.specs.declared.stop.Stop.{Stop}
use Rattle.adj_interp.specs.declared.stop.Stop.TheVariants as stop
use Rattle.adj_interp.specs.Concludes.{Concludes}
use Rattle.adj_interp.specs.Dually.{DualEnds}
use Rattle.adj_tool_answer.specs.Answer.{Answer}
use Rattle.adj_tool_answer.specs.Endings.{Asked, trapped, used_up, tape_full}
use Rattle.adj_tool_answer.specs.EndingViews.{stop_answer}
use Rattle.adj_tool_check.specs.Checking.{after}
use Rattle.adj_tool_check.specs.Ending.{StopsSo, EndsSo, TellsOutput, TellsTangents}
use Rattle.adj_tool_check.proofs.Duals.{tangents_same}

-- ---- the answer to a stop

module _ {C : Type 0} (r : Asked) (go : Output C → Answer) where
  stopped_trap : (o : Outcome (Output C)) (t : CodeTrap) (line : ℕ) (a : Answer) → Some a ≡ stop_answer r (stop.Trap t line) → after r o go ≡ trapped (trap_of t) line → a ≡ after r o go
  stopped_trap o t line a is same = let e : a ≡ trapped (trap_of t) line = cc in e ∙ sym same

  stopped_budget : (o : Outcome (Output C)) (a : Answer) → Some a ≡ stop_answer r stop.Budget → after r o go ≡ used_up r.budget → a ≡ after r o go
  stopped_budget o a is same = let e : a ≡ used_up r.budget = cc in e ∙ sym same

  stopped_full : (o : Outcome (Output C)) (a : Answer) → Some a ≡ stop_answer r stop.TapeFull → after r o go ≡ tape_full r.room → a ≡ after r o go
  stopped_full o a is same = let e : a ≡ tape_full r.room = cc in e ∙ sym same

-- ---- runs

module _ (r : Asked) (tape : Held ℤ) (log : Log) where
  pub done_so : (o : Outcome (Output ℤ)) (values : List CodeSlot) → Concludes o (Ok values) tape log → EndsSo TellsOutput r o (Ok (record { values = values; advances = log.advances }))
  done_so (Done out used) values h = (h.0, ap (λ (l : meaning.Log). l.advances) (sym h.3))
  done_so (Trapped t line w) values h = absurd h
  done_so (More w) values h = absurd h
  done_so (Full w) values h = absurd h

  pub stops_so : (o : Outcome (Output ℤ)) (e : Stop) → Concludes o (Err e) tape log → StopsSo r o e
  stops_so (Done out used) (stop.Trap t line) h a is go = absurd h
  stops_so (Trapped d l w) (stop.Trap t line) h a is go = stopped_trap r go (Trapped d l w) t line a is (λ i. trapped (h.0 i) (h.1 i))
  stops_so (More w) (stop.Trap t line) h a is go = absurd h
  stops_so (Full w) (stop.Trap t line) h a is go = absurd h
  stops_so (Done out used) stop.Budget h a is go = absurd h
  stops_so (Trapped d l w) stop.Budget h a is go = absurd h
  stops_so (More w) stop.Budget h a is go = stopped_budget r go (More w) a is refl
  stops_so (Full w) stop.Budget h a is go = absurd h
  stops_so (Done out used) stop.TapeFull h a is go = absurd h
  stops_so (Trapped d l w) stop.TapeFull h a is go = absurd h
  stops_so (More w) stop.TapeFull h a is go = absurd h
  stops_so (Full w) stop.TapeFull h a is go = stopped_full r go (Full w) a is refl
  stops_so o stop.Memory h a is go = absurd cc

  -- as a run of the code that stopped
  pub ends_stopped : (o : Outcome (Output ℤ)) (e : Stop) → Concludes o (Err e) tape log → EndsSo TellsOutput r o (Err e)
  ends_stopped (Done out used) e h = stops_so (Done out used) e h
  ends_stopped (Trapped d l w) e h = stops_so (Trapped d l w) e h
  ends_stopped (More w) e h = stops_so (More w) e h
  ends_stopped (Full w) e h = stops_so (Full w) e h

-- ---- dual runs

module _ (r : Asked) where
  pub dual_done_so : (o : Outcome (Output (ℤ × ℤ))) (vs ts : List CodeSlot) → DualEnds o (Ok (vs, ts)) → EndsSo TellsTangents r o (Ok ts)
  dual_done_so (Done out used) vs ts h = sym (tangents_same vs ts h.0) ∙ ap (λ (s : List (Slot (ℤ × ℤ))). tangents_of (cells_of s)) h.1
  dual_done_so (Trapped t line w) vs ts h = absurd h
  dual_done_so (More w) vs ts h = absurd h
  dual_done_so (Full w) vs ts h = absurd h

  pub dual_stops_so : (o : Outcome (Output (ℤ × ℤ))) (e : Stop) → DualEnds o (Err e) → StopsSo r o e
  dual_stops_so (Done out used) (stop.Trap t line) h a is go = absurd h
  dual_stops_so (Trapped d l w) (stop.Trap t line) h a is go = stopped_trap r go (Trapped d l w) t line a is (λ i. trapped (h.0 i) (h.1 i))
  dual_stops_so (More w) (stop.Trap t line) h a is go = absurd h
  dual_stops_so (Full w) (stop.Trap t line) h a is go = absurd h
  dual_stops_so (Done out used) stop.Budget h a is go = absurd h
  dual_stops_so (Trapped d l w) stop.Budget h a is go = absurd h
  dual_stops_so (More w) stop.Budget h a is go = stopped_budget r go (More w) a is refl
  dual_stops_so (Full w) stop.Budget h a is go = absurd h
  dual_stops_so (Done out used) stop.TapeFull h a is go = absurd h
  dual_stops_so (Trapped d l w) stop.TapeFull h a is go = absurd h
  dual_stops_so (More w) stop.TapeFull h a is go = absurd h
  dual_stops_so (Full w) stop.TapeFull h a is go = stopped_full r go (Full w) a is refl
  dual_stops_so o stop.Memory h a is go = absurd cc

  pub dual_ends_stopped : (o : Outcome (Output (ℤ × ℤ))) (e : Stop) → DualEnds o (Err e) → EndsSo TellsTangents r o (Err e)
  dual_ends_stopped (Done out used) e h = dual_stops_so (Done out used) e h
  dual_ends_stopped (Trapped d l w) e h = dual_stops_so (Trapped d l w) e h
  dual_ends_stopped (More w) e h = dual_stops_so (More w) e h
  dual_ends_stopped (Full w) e h = dual_stops_so (Full w) e h

-- ---- what goes on

module _ {C V : Type 0} (Tells : Output C → V → Type 0) (r : Asked) where
  -- where a run of the code is done, so is the run
  pub after_done : (o : Outcome (Output C)) (v : V) → EndsSo Tells r o (Ok v) → (go : Output C → Answer) (a : Answer) → ((out : Output C) → Tells out v → a ≡ go out) → a ≡ after r o go
  after_done (Done out used) v h go a f = f out h
  after_done (Trapped t line w) v h go a f = absurd h
  after_done (More w) v h go a f = absurd h
  after_done (Full w) v h go a f = absurd h

  -- with some output
  pub done_of : (o : Outcome (Output C)) (v : V) → EndsSo Tells r o (Ok v) → (out : Output C) × (used : ℕ) × (o ≡ Done out used)
  done_of (Done out used) v h = (out, used, refl)
  done_of (Trapped t line w) v h = absurd h
  done_of (More w) v h = absurd h
  done_of (Full w) v h = absurd h

  -- where it stopped, the answer is that to the run
  pub after_stop : (o : Outcome (Output C)) (e : Stop) → EndsSo Tells r o (Err e) → (a : Answer) → Some a ≡ stop_answer r e → (go : Output C → Answer) → a ≡ after r o go
  after_stop (Done out used) e h = h
  after_stop (Trapped t line w) e h = h
  after_stop (More w) e h = h
  after_stop (Full w) e h = h
