-- The arcs of the ways passed, and of those that are left.
use Rattle.std.proofs.Common.{◌≡◌, ◌++◌, map, drop}
use Rattle.std.specs.List.{flat_map}
use Rattle.adj_flow.specs.Rows.{row_of}
use Rattle.adj_flow.specs.WayView.{way_of}
use Rattle.adj_tbr.specs.View.{way_arc, unit_arcs}
use Rattle.adj_tbr.proofs.held.add_unit.Given as goal

abbrev pub invariant-loop-way : goal.invariant-loop-way
invariant-loop-way l = l.arcs.items ++ flat_map (way_arc l.found (row_of l.part)) (map way_of (drop l.way-index l.way-items)) ≡ l.initial.arcs.items ++ unit_arcs l.found (row_of l.part)
