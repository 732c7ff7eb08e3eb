-- What holds of the lowered program of a text.
use Rattle.std.specs.Prelude.{◌≡◌, List, []}
use Rattle.def_names.specs.UnitFaults.{unit_faults}
use Rattle.def_text.specs.Written.{IsWritten, AreWritten}
use Rattle.adj_tree.specs.Common.{Shared}
use Rattle.def_common.specs.Lowering.{lowered_program}

-- It can be written where the units that are read can be, and the names of units have no fault: a call of a unit named like a call of the runtime
-- may become that call by the members behind its actuals.
abbrev pub LoweredIsWritten : Type 0
LoweredIsWritten = (ps : List Shared) → AreWritten ps → unit_faults (lowered_program ps) ≡ [] → IsWritten (lowered_program ps)
