-- What the step units of a marked loop take and give.
use Rattle.std.specs.Prelude.{ℕ, List, [], ◌∷◌, ◌&&◌, ◌||◌, Bool, false, if◌then◌else◌}
use Rattle.adj_tree.specs.Code.{plain}
use Rattle.def_names.specs.Numbers.{Vars}
use Rattle.def_sweep.specs.Plan.{Callee}
use Rattle.def_sweep.specs.Reversals.{StepUnits}

-- whether a dummy of the step unit is in the snapshot of a step
abbrev pub is_taken : Callee → Vars → List ℕ → Bool
is_taken g read d = g.written (plain d) && (g.members (plain d) || read (plain d))

abbrev pub taken_in : Callee → Vars → List (List ℕ) → List Bool
taken_in g read [] = []
taken_in g read (d ∷ ds) = is_taken g read d ∷ taken_in g read ds

-- and of its adjoint, where shadows stand between; those are in none
abbrev pub taken_behind : Callee → Vars → List (List ℕ) → List Bool
taken_behind g read [] = []
taken_behind g read (d ∷ ds) = if g.shadowed (plain d) then is_taken g read d ∷ false ∷ taken_behind g read ds else is_taken g read d ∷ taken_behind g read ds

abbrev pub step_units : List ℕ → Callee → Vars → StepUnits
step_units name g read = record { unit = name; adjoint = g.adjoint; taken = taken_in g read g.dummies; taken_back = taken_behind g read g.dummies }
