-- Ending: how runs of the code end, beside the runs of the definitions.
use Rattle.std.specs.Prelude.{◌≡◌, ℤ, List, map, Result, Ok, Err, Some}
use Rattle.adj_tree.specs.declared.value.Slot.{Slot as CodeSlot}
use Rattle.def_meaning.specs.Log.{log_of}
use Rattle.def_meaning.specs.Scene.{Outcome, Done, Trapped, More, Full}
use Rattle.def_meaning.specs.Units.{Output}
use Rattle.def_sweep.specs.Tangents.{cells_of, tangents_of}
use Rattle.adj_data.specs.Given.{slot_seen}
use Rattle.adj_interp.specs.declared.stop.Stop.{Stop}
use Rattle.adj_tool_answer.specs.Answer.{Answer}
use Rattle.adj_tool_answer.specs.Endings.{Asked}
use Rattle.adj_tool_answer.specs.EndingViews.{stop_answer}
use Rattle.adj_tool_check.specs.Checking.{after}
use Rattle.adj_tool_check.specs.declared.runs.Ended.{Ended}

-- the answer to a stop is that to the run, whatever would go on from it
abbrev pub StopsSo : {C : Type 0} → Asked → Outcome (Output C) → Stop → Type 0
StopsSo {C} r o e = (a : Answer) → Some a ≡ stop_answer r e → (go : Output C → Answer) → a ≡ after r o go

-- a run is done with something that tells of its output, or stops
abbrev pub EndsSo : {C V : Type 0} → (Output C → V → Type 0) → Asked → Outcome (Output C) → Result V Stop → Type 0
EndsSo Tells r (Done out used) (Ok v) = Tells out v
EndsSo Tells r (Trapped t line w) (Ok v) = ⊥
EndsSo Tells r (More w) (Ok v) = ⊥
EndsSo Tells r (Full w) (Ok v) = ⊥
EndsSo Tells r o (Err e) = StopsSo r o e

-- the values of an output, and how many step calls its reversals made beyond their steps
abbrev pub TellsOutput : Output ℤ → Ended → Type 0
TellsOutput out e = (map slot_seen e.values ≡ out.slots) × (e.advances ≡ (log_of out.events).advances)

-- the tangents of an output
abbrev pub TellsTangents : Output (ℤ × ℤ) → List CodeSlot → Type 0
TellsTangents out ts = cells_of (map slot_seen ts) ≡ tangents_of (cells_of out.slots)
