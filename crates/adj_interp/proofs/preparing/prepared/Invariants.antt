-- The units so far are prepared.
use Rattle.std.proofs.Common.{◌≡◌, ℕ, ◌<◌, map, take, length, get_or}
use Rattle.adj_tree.specs.View.{procedure_of, procedures_of}
use Rattle.adj_interp_frame.specs.declared.routine.Routine.{Routine}
use Rattle.adj_interp_frame.specs.Linked.{IsRoutine, units_in}
use Rattle.adj_interp_frame.specs.Listed.{IsDirectory}
use Rattle.adj_interp.proofs.preparing.prepared.Given as goal

abbrev pub invariant-loop-i : goal.invariant-loop-i
invariant-loop-i l = record {
  directory : IsDirectory l.directory;
  units : l.directory.units.now ≡ l.program.program.units;
  count : length l.routines.items ≡ l.i;
  made : units_in l.routines.items ≡ map procedure_of (take l.i l.program.program.units);
  each : (k : ℕ) (d : Routine) → k < l.i → IsRoutine (procedures_of l.program.program) (get_or l.routines.items k d);
}
