-- The variables that are active in a statement, by flags.
use Rattle.std.specs.Prelude.{◌&&◌}
use Rattle.def_names.specs.Numbers.{Vars}
use Rattle.def_names.specs.Numbering.{point_before}
use Rattle.adj_flow.specs.Rows.{row_of}
use Rattle.adj_flow.specs.NodeView.{told_at}
use Rattle.adj_flow.specs.declared.occurring.Occurrences.{Occurrences}

-- varied before it
abbrev pub varied_by : Occurrences → Vars
varied_by s v = told_at s.varied.now s.width (row_of s.part.now) (point_before s.statement) v

-- with a shadow in its unit
abbrev pub shadowed_by : Occurrences → Vars
shadowed_by s v = told_at s.shadowed.now s.width (row_of s.part.now) (row_of s.part.now).part.number v

abbrev pub active_by : Occurrences → Vars
active_by s v = varied_by s v && shadowed_by s v
