-- What a run's log counts, by its events alone. (docs/RUNNING.md, "Events")
use Rattle.std.specs.Prelude.{ℕ, suc, ◌+◌, ◌-◌, ◌==◌, Bool, max, List, [], ◌∷◌, if◌then◌else◌}
use Rattle.def_meaning.specs.Event.{Event, Enter, Begin, End, Marked}

-- a reversal that is open: its unit's level, its steps, the words on the tape when it began, and the calls directly in it so far
pub record Reversal : Type 0 where
  pub level : ℕ
  pub steps : ℕ
  pub start : ℕ
  pub calls : ℕ

pub record Log : Type 0 where
  -- how many reversals began
  pub reversals : ℕ
  -- over the reversals that ended, the calls directly in them less their steps, where there are more
  pub advances : ℕ
  -- the greatest number of words above a reversal's start at a call directly in it
  pub height : ℕ

-- a unit that is entered at a level is called directly in a reversal one level below
abbrev pub is_direct : ℕ → Reversal → Bool
is_direct level r = level == suc r.level

-- the log after some events, where the innermost open reversal is the first: no unit ends while it has one open
abbrev pub log_from : List Reversal → Log → List Event → Log
log_from open_ones log [] = log
log_from [] log (Enter name level height shapes ∷ es) = log_from [] log es
log_from (r ∷ rs) log (Enter name level height shapes ∷ es) =
    log_from (record r { calls = if is_direct level r then suc r.calls else r.calls } ∷ rs) (record log { height = if is_direct level r then max log.height (height - r.start) else log.height }) es
log_from rs log (Begin steps snapshots level height ∷ es) = log_from (record { level = level; steps = steps; start = height; calls = 0 } ∷ rs) (record log { reversals = suc log.reversals }) es
log_from [] log (End level ∷ es) = log_from [] log es
log_from (r ∷ rs) log (End level ∷ es) = log_from rs (record log { advances = log.advances + (r.calls - r.steps) }) es
log_from rs log (Marked line turns snapshots ∷ es) = log_from rs log es

-- the log of a run with these events, in order of time
abbrev pub log_of : List Event → Log
log_of es = log_from [] (record { reversals = 0; advances = 0; height = 0 }) es
