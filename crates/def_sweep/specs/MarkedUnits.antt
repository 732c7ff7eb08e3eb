-- Whether a loop is marked, and of which units its steps are calls.
use Rattle.std.specs.Prelude.{ℕ, List, Bool, true, false, Option, Some, None}
use Rattle.adj_tree.specs.Code.{Mark, unmarked, with_count, count_from}
use Rattle.def_sweep.specs.Plan.{Step}
use Rattle.def_sweep.specs.Callees.{CalleeFacts}
use Rattle.def_sweep.specs.StepUnits.{step_units}
use Rattle.def_sweep.specs.Reversals.{StepUnits}

-- the loop has a mark
abbrev pub is_marked : Mark → Bool
is_marked unmarked = false
is_marked (with_count k) = true
is_marked (count_from y) = true

-- the units of a loop that is reversed by a schedule
abbrev pub units_of : (List ℕ → CalleeFacts) → Option Step → Option StepUnits
units_of g None = None
units_of g (Some s) = Some (step_units s.name (g s.name).callee s.read)
