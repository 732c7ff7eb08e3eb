-- The arcs of the units passed, and of those that are left.
use Rattle.std.proofs.Common.{◌≡◌, ◌++◌, map, drop}
use Rattle.std.specs.List.{flat_map}
use Rattle.def_names.specs.VariableLists.{list_if}
use Rattle.adj_flow.specs.Rows.{row_of}
use Rattle.adj_reach.specs.Edges.{flag}
use Rattle.adj_activity.specs.Arcs.{row_arcs, flow_arcs}
use Rattle.adj_activity.proofs.along.flow_arcs.Given as goal

abbrev pub invariant-loop-part : goal.invariant-loop-part
invariant-loop-part l = l.arcs.items ++ flat_map (λ r. list_if (flag l.flow.taking r.part.number) (row_arcs r)) (map row_of (drop l.part-index l.part-items)) ≡ flow_arcs (map row_of l.flow.parts.items) l.flow.taking
