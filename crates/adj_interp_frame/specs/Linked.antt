-- Linked: prepared units as the units of a program.
use Rattle.std.specs.Prelude.{◌≡◌, ℕ, ◌<◌, List, map, length, slice_get, slice_index_or}
use Rattle.adj_tree.specs.Code.{Procedure}
use Rattle.adj_tree.specs.View.{code_of, procedure_of}
use Rattle.def_meaning.specs.Written.{find_unit, handed_back}
use Rattle.adj_interp_frame.specs.declared.step.Task.{Task}
use Rattle.adj_interp_frame.specs.declared.step.Task.TheVariants as task
use Rattle.adj_interp_frame.specs.declared.step.Steps.{Steps}
use Rattle.adj_interp_frame.specs.declared.step.Steps.TheVariants as steps
use Rattle.adj_interp_frame.specs.declared.routine.Routine.{Routine}
use Rattle.adj_interp_frame.specs.Instructed.{steps_in, AreStepsBelow}
use Rattle.adj_interp_frame.specs.Called.{IsLaidOut}
use Rattle.adj_interp_frame.specs.Suited.{IsScalarIn, AreSuited}

abbrev mutual
  -- calls in the statement bear the numbers of the units of their names
  pub IsTaskLinked : List Procedure → Task → Type 0
  IsTaskLinked units (task.Assign c e) = Unit {0}
  IsTaskLinked units (task.If t a b) = AreLinked units a × AreLinked units b
  IsTaskLinked units (task.Loop i b body m) = AreLinked units body
  IsTaskLinked units (task.While t body) = AreLinked units body
  IsTaskLinked units (task.Call i x args) = find_unit units x ≡ slice_get units i
  IsTaskLinked units (task.Run r) = Unit {0}

  pub AreLinked : List Procedure → Steps → Type 0
  AreLinked units steps.Empty = Unit {0}
  AreLinked units (steps.More' p line t q rest) = IsTaskLinked units t × AreLinked units rest

-- the units that were prepared
abbrev pub units_in : List Routine → List Procedure
units_in rs = map (λ (r : Routine). procedure_of r.unit.now) rs

-- a unit of a program is prepared: its statements stand for those of the unit, which hand whole scalars alone to scalars, and it hands
-- back what the unit writes
pub record IsRoutine (units : List Procedure) (r : Routine) : Type 0 where
  pub laid : IsLaidOut r
  pub body : steps_in r.names r.body ≡ code_of r.unit.now.body
  pub below : AreStepsBelow (length r.names) r.body
  pub linked : AreLinked units r.body
  pub suited : AreSuited units (IsScalarIn (procedure_of r.unit.now)) (code_of r.unit.now.body)
  pub writes : r.writes.now ≡ handed_back units r.unit.now.name

-- all units of a program are prepared
abbrev pub AreRoutines : List Routine → Type 0
AreRoutines rs = (i : ℕ) (d : Routine) → i < length rs → IsRoutine (units_in rs) (slice_index_or rs i d)
