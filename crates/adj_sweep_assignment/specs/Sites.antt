-- What a site says: the names of variables, and the active ones.
use Rattle.adj_tree.specs.Code.{Var}
use Rattle.def_names.specs.Numbers.{Vars}
use Rattle.def_sweep.specs.Marks.{active_at}
use Rattle.adj_naming.specs.Table.{named_by}
use Rattle.adj_sweep_assignment.specs.View.{marks_of}
use Rattle.adj_sweep_assignment.specs.declared.site.Site.{Site}

-- the variables under the names of the unit
abbrev pub naming_of : Site → Var → Var
naming_of s = named_by s.names.now

-- the variables that are active in the statement
abbrev pub active_in : Site → Vars
active_in s = active_at (marks_of s.marks.now) s.number
