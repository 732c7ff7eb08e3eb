-- What a plan of the code says: the naming of the unit, and the plan that its sweeps follow.
use Rattle.std.specs.Prelude.{ℕ, List}
use Rattle.adj_tree.specs.Code.{Var}
use Rattle.def_meaning.specs.Apart.{is_named}
use Rattle.def_names.specs.Numbers.{Vars}
use Rattle.def_sweep.specs.Plan as sweeps
use Rattle.adj_naming.specs.Table.{named_by}
use Rattle.adj_sweep_assignment.specs.View.{marks_of}
use Rattle.adj_sweep.specs.HelperSteps.{schedules_for}
use Rattle.adj_sweep.specs.declared.plan.Plan.{Plan}

-- the variables under the names of the unit
abbrev pub naming_in : Plan → Var → Var
naming_in p = named_by p.names.now

-- the plan, where this is known of the units that are called
abbrev pub plan_of : Plan → (List ℕ → sweeps.Callee) → sweeps.Plan
plan_of p callees = record { marks = marks_of p.marks.now; arrays = is_named p.arrays.now; callees = callees }

-- the schedules that the sweeps follow, where the units read these variables
abbrev pub schedules_of : Plan → (List ℕ → Vars) → sweeps.Schedules
schedules_of p reads = schedules_for p.loops reads
