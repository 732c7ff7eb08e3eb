-- The shadows that marks use are there by exact analyses.
use Rattle.std.specs.Prelude.{◌≡◌, ℕ, List}
use Rattle.def_names.specs.Fault.{Rules}
use Rattle.def_sweep.specs.Marking.{ProgramMarks, place_from}
use Rattle.law_emitted.specs.Checked.{IsChecked}
use Rattle.law_emitted.specs.Shadowed.{AllHaveShadows}
use Rattle.def_flow.specs.Problem.{Problem}
use Rattle.def_flow.specs.Activity.{Activity, IsActivity}

-- marks whose adjoints and shadows are those of an exact activity have the shadows that they use, in a checked program
abbrev pub ExactHaveShadows : Type 0
ExactHaveShadows =
    (rules : Rules) (k : Problem) → IsChecked rules k.units → (a : Activity) → IsActivity k a →
    (m : ProgramMarks) → m.adjointed ≡ a.adjointed → ((name : List ℕ) → m.shadowed name ≡ a.shadowed (place_from 0 k.units name)) → AllHaveShadows m k.units k.units
