-- Which loops of a unit are reversed by schedules.
use Rattle.std.specs.Prelude.{ℕ, List, Bool}
use Rattle.def_sweep.specs.Plan.{Schedules, schedules_from}
use Rattle.def_sweep.specs.Callees.{CalleeFacts}

-- what is reversed by schedules: no loop, or those whose step call is adjointed, by these facts
abbrev pub schedules_by : Bool → (List ℕ → CalleeFacts) → Schedules
schedules_by b g = schedules_from b (λ name. (g name).read)
