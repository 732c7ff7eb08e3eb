-- What a run tells of its marked loops, in order.
use Rattle.std.specs.Prelude.{◌≡◌, ◌<◌, ℕ, List, [], ◌∷◌, ◌++◌}
use Rattle.def_meaning.specs.Event.{Event}
use Rattle.law_sweep.specs.Scenes.{Course}
use Rattle.def_sweep.specs.Reversals.{Called, LoopRun, Reversal, ReversedLines, calls_after, ends_after, reversals_in, runs_in}

-- events that were told, the last first, put in order of time before others
abbrev pub in_order : List Event → List Event → List Event
in_order [] later = later
in_order (e ∷ told) later = in_order told (e ∷ later)

-- The events were told within a unit that was entered at the level: these are the reversals begun in them, each came to its end,
-- and what calls are directly in a reversal that is open further out is seen from it, whatever comes later.
pub record IsTold (level : ℕ) (told : List Event) (rs : List Reversal) : Type 0 where
  pub all : (later : List Event) → reversals_in (in_order told later) ≡ rs ++ reversals_in later
  pub outer_calls : (l inner : ℕ) → l < level → (later : List Event) → calls_after l inner (in_order told later) ≡ calls_after l inner later
  pub outer_ends : (l inner : ℕ) → l < level → (later : List Event) → ends_after l inner (in_order told later) ≡ ends_after l inner later

-- and these are the calls that the unit itself made, outside of the reversals that it began
pub record IsToldBy (level : ℕ) (told : List Event) (calls : List Called) (rs : List Reversal) : Type 0 where
  pub told_is : IsTold level told rs
  pub own_calls : (later : List Event) → calls_after level 0 (in_order told later) ≡ calls ++ calls_after level 0 later
  pub own_ends : (later : List Event) → ends_after level 0 (in_order told later) ≡ ends_after level 0 later

-- what was kept, and later: as many reversals are open, and these were begun and ended meanwhile
pub record Tells (level : ℕ) (base later : Course) (rs : List Reversal) : Type 0 where
  pub opened : later.opened ≡ base.opened
  pub told : List Event
  pub events : later.events ≡ told ++ base.events
  pub is : IsTold level told rs

-- the same, with the calls that the unit made
pub record TellsCalls (level : ℕ) (base later : Course) (calls : List Called) (rs : List Reversal) : Type 0 where
  pub opened : later.opened ≡ base.opened
  pub told : List Event
  pub events : later.events ≡ told ++ base.events
  pub is : IsToldBy level told calls rs

-- what was kept, and later: no reversal was begun meanwhile, and these runs of loops at lines of a set were told, the last first
pub record Marks (lines : ReversedLines) (level : ℕ) (base later : Course) (loops : List LoopRun) : Type 0 where
  pub opened : later.opened ≡ base.opened
  pub told : List Event
  pub events : later.events ≡ told ++ base.events
  pub is : IsTold level told []
  pub loops_are : runs_in lines told ≡ loops
