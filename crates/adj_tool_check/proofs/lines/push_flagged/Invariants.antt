use Rattle.std.proofs.Common.{◌≡◌, ◌++◌, map, drop}
use Rattle.def_sweep.specs.Tangents.{cells_of}
use Rattle.adj_data.specs.Given.{slot_seen}
use Rattle.adj_tool_check.specs.Checking.{flagged_lines}
use Rattle.adj_tool_check.proofs.lines.push_flagged.Given as goal

abbrev pub invariant-loop-flag : goal.invariant-loop-flag
invariant-loop-flag l =
    l.out.items ++ flagged_lines l.keyword (drop l.flag-index l.flags) l.unnamed (cells_of (map slot_seen l.rest)) ≡ l.fn.out.items ++ flagged_lines l.keyword l.flags l.names (cells_of (map slot_seen l.values))
