use Rattle.std.proofs.Common.{◌≡◌, ◌++◌, map, drop}
use Rattle.def_sweep.specs.Tangents.{cells_of, marked_cells}
use Rattle.adj_data.specs.Given.{slot_seen}
use Rattle.adj_tool_check.proofs.shadows.marked_cells.Given as goal

abbrev pub invariant-loop-flag : goal.invariant-loop-flag
invariant-loop-flag l = l.cells.items ++ marked_cells (drop l.flag-index l.flags) (cells_of (map slot_seen l.rest)) ≡ marked_cells l.flags (cells_of (map slot_seen l.values))
