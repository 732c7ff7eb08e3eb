-- Runs that end in a trap.
use Rattle.def_meaning.specs.Scene.{Outcome, Done, Trapped, More, Full}

-- the run traps
abbrev pub IsTrapped : {R : Type 0} → Outcome R → Type 0
IsTrapped (Done a k) = ⊥
IsTrapped (Trapped t line w) = Unit {0}
IsTrapped (More w) = ⊥
IsTrapped (Full w) = ⊥
