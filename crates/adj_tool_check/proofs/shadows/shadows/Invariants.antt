use Rattle.std.proofs.Common.{◌≡◌, ◌++◌, map, drop}
use Rattle.def_sweep.specs.Tangents.{cells_of}
use Rattle.def_sweep.specs.MarkedAdjoint.{shadow_cells}
use Rattle.adj_data.specs.Given.{slot_seen}
use Rattle.adj_tool_check.proofs.shadows.shadows.Given as goal

abbrev pub invariant-loop-flag : goal.invariant-loop-flag
invariant-loop-flag l = cells_of (map slot_seen l.made.items) ++ shadow_cells (drop l.flag-index l.flags) (map slot_seen l.rest) ≡ shadow_cells l.flags (map slot_seen l.values)
