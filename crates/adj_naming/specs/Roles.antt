-- The variables that an emitted unit brings in, as the emission speaks of them.
use Rattle.adj_tree.specs.Code as code
use Rattle.adj_tree.specs.Code.{Var}
use Rattle.adj_naming.specs.declared.role.Role.{Role}
use Rattle.adj_naming.specs.declared.role.Role.TheVariants.{Work, Temp, Control, First, Stride, Count, Turn, Entry, Entries, Kind, Lower, Upper, Slots}
use Rattle.adj_naming.specs.declared.role.Helper.{Helper}

-- what a helper is for
abbrev pub role_of : Role → code.Role
role_of Work = code.work
role_of Temp = code.temp
role_of Control = code.control
role_of First = code.first
role_of Stride = code.stride
role_of Count = code.count
role_of Turn = code.turn
role_of Entry = code.entry
role_of Entries = code.entries
role_of Kind = code.kind
role_of Lower = code.lower
role_of Upper = code.upper
role_of Slots = code.slots

-- the helper as a variable
abbrev pub variable_of : Helper → Var
variable_of h = code.helper (role_of h.role) h.number
