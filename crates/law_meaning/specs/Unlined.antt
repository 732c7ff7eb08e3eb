-- Runs up to line numbers: without the lines of traps, and of the marked loops that are told of.
use Rattle.std.specs.Prelude.{map}
use Rattle.def_meaning.specs.Event.{Event, Enter, Begin, End, Marked}
use Rattle.def_meaning.specs.Scene.{Scene, Stand, Outcome, Done, Trapped, More, Full}
use Rattle.def_meaning.specs.Units.{Output}

-- an event, with line 0
abbrev pub unlined_event : Event → Event
unlined_event (Enter name level height shapes) = Enter name level height shapes
unlined_event (Begin steps snapshots level height) = Begin steps snapshots level height
unlined_event (End level) = End level
unlined_event (Marked line turns snapshots) = Marked 0 turns snapshots

-- what a run has in hand, with events of line 0
abbrev pub unlined_scene : {C : Type 0} → Scene C → Scene C
unlined_scene s = record s { events = map unlined_event s.events }

-- what a run gives, with events of line 0
abbrev pub unlined_output : {C : Type 0} → Output C → Output C
unlined_output out = record out { events = map unlined_event out.events }

-- what stands where a run stops, with events of line 0
abbrev pub unlined_stand : Stand → Stand
unlined_stand w = record w { events = map unlined_event w.events }

-- how a run ends, with its trap at line 0 and its result as it is seen
abbrev pub ended_unlined : {R : Type 0} → (R → R) → Outcome R → Outcome R
ended_unlined see (Done r k) = Done (see r) k
ended_unlined see (Trapped t line w) = Trapped t 0 (unlined_stand w)
ended_unlined see (More w) = More (unlined_stand w)
ended_unlined see (Full w) = Full (unlined_stand w)

-- how statements end
abbrev pub unlined_outcome : {C : Type 0} → Outcome (Scene C) → Outcome (Scene C)
unlined_outcome o = ended_unlined unlined_scene o

-- how the run of a unit ends
abbrev pub unlined_ending : {C : Type 0} → Outcome (Output C) → Outcome (Output C)
unlined_ending o = ended_unlined unlined_output o
