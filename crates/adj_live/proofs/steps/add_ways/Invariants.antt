-- The ways passed, and those that are left.
use Rattle.std.proofs.Common.{◌≡◌, ◌++◌, map, drop}
use Rattle.std.specs.List.{flat_map}
use Rattle.adj_flow.specs.WayView.{way_of}
use Rattle.adj_live.specs.Listed.{way_arc, row_arcs}
use Rattle.adj_live.specs.View.{here_at}
use Rattle.adj_live.proofs.steps.add_ways.Given as goal

abbrev pub invariant-loop-way : goal.invariant-loop-way
invariant-loop-way l = l.arcs.items ++ flat_map (way_arc (here_at l.site)) (map way_of (drop l.way-index l.way-items)) ≡ l.initial.arcs.items ++ row_arcs (here_at l.site)
