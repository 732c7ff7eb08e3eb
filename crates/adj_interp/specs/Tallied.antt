-- Tallied: what a run counts of its reversals, event by event, and the schedules of reversals.
use Rattle.std.specs.Prelude.{ℕ, suc, ◌+◌, ◌-◌, max, List, [], ◌∷◌, if◌then◌else◌}
use Rattle.adj_revolve.specs.declared.machine.Action.{Action}
use Rattle.adj_revolve.specs.Schedule.{schedule_of}
use Rattle.def_meaning.specs.Event.{Event, Enter, Begin, End, Marked}
use Rattle.def_meaning.specs.Log.{Reversal, Log, is_direct}
use Rattle.adj_interp.specs.declared.tally.Reversal.{Reversal as OpenReversal}

-- the reversals that are open, the innermost first, and what was counted
pub record Tallied : Type 0 where
  pub begun : List Reversal
  pub log : Log

-- a reversal that is open
abbrev pub reversal_of : OpenReversal → Reversal
reversal_of r = record { level = r.level; steps = r.steps; start = r.start; calls = r.calls }

-- a unit is entered at a level and a height, where these reversals are open
abbrev pub with_entry : ℕ → ℕ → Log → List Reversal → Tallied
with_entry level height log [] = record { begun = []; log = log }
with_entry level height log (r ∷ rs) = record {
  begun = record r { calls = if is_direct level r then suc r.calls else r.calls } ∷ rs;
  log = record log { height = if is_direct level r then max log.height (height - r.start) else log.height };
}

-- the innermost reversal ends
abbrev pub with_end : Log → List Reversal → Tallied
with_end log [] = record { begun = []; log = log }
with_end log (r ∷ rs) = record { begun = rs; log = record log { advances = log.advances + (r.calls - r.steps) } }

-- what is counted after one event more
abbrev pub with_event : Tallied → Event → Tallied
with_event c (Enter name level height shapes) = with_entry level height c.log c.begun
with_event c (Begin steps snapshots level height) = record { begun = record { level = level; steps = steps; start = height; calls = 0 } ∷ c.begun; log = record c.log { reversals = suc c.log.reversals } }
with_event c (End level) = with_end c.log c.begun
with_event c (Marked line turns snapshots) = c

-- ---- schedules

-- so many steps and snapshots
pub record Plan : Type 0 where
  pub steps : ℕ
  pub snapshots : ℕ

abbrev pub planned : Plan → List Action
planned p = schedule_of 0 p.steps p.snapshots
