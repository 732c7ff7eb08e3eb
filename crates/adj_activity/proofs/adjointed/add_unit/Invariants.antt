-- The statements passed, and those that are left.
use Rattle.std.proofs.Common.{◌≡◌, ◌++◌, map, drop}
use Rattle.std.specs.List.{flat_map}
use Rattle.adj_flow.specs.Rows.{row_of}
use Rattle.adj_flow.specs.View.{standing_of}
use Rattle.adj_activity.specs.Starts.{outright_at, outright_in}
use Rattle.adj_activity.proofs.adjointed.add_unit.Given as goal

abbrev pub invariant-loop-standing : goal.invariant-loop-standing
invariant-loop-standing l = l.nodes.items ++ flat_map (outright_at l.found l.width (row_of l.part)) (map standing_of (drop l.standing-index l.standing-items)) ≡ l.initial.nodes.items ++ outright_in l.found l.width (row_of l.part)
