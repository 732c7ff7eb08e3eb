-- What a clause sees of units with COMMON statements: them without their pointers.
use Rattle.std.specs.Prelude.{List, map}
use Rattle.adj_tree.specs.View.{declaration_of, procedure_of}
use Rattle.adj_tree.specs.Common as code
use Rattle.adj_tree.specs.Common.{Shared}
use Rattle.adj_tree.specs.declared.shared.Common.{Common}
use Rattle.adj_tree.specs.declared.shared.SharedUnit.{SharedUnit}
use Rattle.adj_tree.specs.declared.shared.SharedProgram.{SharedProgram}

abbrev pub common_of : Common → code.Common
common_of c = record { line = c.line; block = c.block; items = map declaration_of c.members }

abbrev pub shared_of : SharedUnit → Shared
shared_of s = record { unit = procedure_of s.unit; commons = map common_of s.commons }

-- the units of a program, in order
abbrev pub shared_units_of : SharedProgram → List Shared
shared_units_of p = map shared_of p.units
