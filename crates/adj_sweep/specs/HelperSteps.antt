-- Marked loops that are reversed by schedules, as the code speaks of them.
use Rattle.std.specs.Prelude.{ℕ, List, Bool, true, false, Option, Some, None}
use Rattle.adj_tree.specs.View.{terms_of, mark_of}
use Rattle.def_names.specs.Numbers.{Vars}
use Rattle.def_sweep.specs.Plan.{names_of, Schedules, schedules_from, Step}
use Rattle.adj_sweep.specs.declared.steps.MarkedLoops.{MarkedLoops}
use Rattle.adj_sweep.specs.declared.steps.MarkedLoops.TheVariants.{Plain, Reversed}
use Rattle.adj_sweep.specs.declared.steps.StepCall.{StepCall}

-- whether marked loops are reversed by schedules
abbrev pub are_reversed : MarkedLoops → Bool
are_reversed Plain = false
are_reversed Reversed = true

-- the schedules that the sweeps follow, where the units read these variables
abbrev pub schedules_for : MarkedLoops → (List ℕ → Vars) → Schedules
schedules_for loops reads = schedules_from (are_reversed loops) reads

-- how a loop is reversed that has this step call
abbrev pub step_of : (List ℕ → Vars) → Option StepCall → Option Step
step_of reads None = None
step_of reads (Some s) = Some (record { name = s.name.now; given = names_of (terms_of s.actuals.now); read = reads s.name.now; mark = mark_of s.mark.now })
