-- The units passed, and those that are left.
use Rattle.std.proofs.Common.{◌≡◌, ◌++◌, map, drop}
use Rattle.std.specs.List.{flat_map}
use Rattle.def_names.specs.VariableLists.{list_if}
use Rattle.adj_flow.specs.Rows.{row_of}
use Rattle.adj_reach.specs.Edges.{flag}
use Rattle.adj_activity.specs.Starts.{active_nodes, all_active}
use Rattle.adj_activity.proofs.starts.add_all_active.Given as goal

abbrev pub invariant-loop-part : goal.invariant-loop-part
invariant-loop-part l =
    l.nodes.items ++ flat_map (λ r. list_if (flag l.flow.taking r.part.number) (active_nodes l.sets.varied.now l.sets.useful l.flow.width r)) (map row_of (drop l.part-index l.part-items))
    ≡ l.initial.nodes.items ++ all_active l.sets.varied.now l.sets.useful (map row_of l.flow.parts.items) l.flow.taking l.flow.width
