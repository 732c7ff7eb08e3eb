-- The edges of the ways passed, and of those that are left.
use Rattle.std.proofs.Common.{◌≡◌, ◌++◌, map, drop}
use Rattle.std.specs.List.{flat_map}
use Rattle.adj_flow.specs.Rows.{row_of}
use Rattle.adj_flow.specs.WayView.{way_of}
use Rattle.adj_activity.specs.Arcs.{call_way}
use Rattle.adj_activity.proofs.ways.add_call_ways.Given as goal

abbrev pub invariant-loop-way : goal.invariant-loop-way
invariant-loop-way l = l.edges.items ++ flat_map (call_way l.width (row_of l.part)) (map way_of (drop l.way-index l.way-items)) ≡ l.initial.edges.items ++ flat_map (call_way l.width (row_of l.part)) (map way_of l.part.ways.items)
