-- The marked loops that a run told of and that are reversed: how many repetitions serve.
use Rattle.std.specs.Prelude.{◌≡◌, ℕ, ◌≤◌, List, [], ◌∷◌, Some}
use Rattle.adj_revolve.specs.Binomial.{beta}
use Rattle.def_meaning.specs.Event.{Event, Enter, Begin, End, Marked}
use Rattle.def_sweep.specs.Reversals.{StepUnits, ReversedLines}

-- so many repetitions serve, where it tells of a loop that is reversed
abbrev pub IsFew : ReversedLines → ℕ → Event → Type 0
IsFew lines reps (Enter name level height shapes) = Unit {0}
IsFew lines reps (Begin l s level height) = Unit {0}
IsFew lines reps (End level) = Unit {0}
IsFew lines reps (Marked line turns snapshots) = (u : StepUnits) → lines line ≡ Some u → turns ≤ beta snapshots reps

abbrev pub AllFew : ReversedLines → ℕ → List Event → Type 0
AllFew lines reps [] = Unit {0}
AllFew lines reps (e ∷ es) = IsFew lines reps e × AllFew lines reps es
