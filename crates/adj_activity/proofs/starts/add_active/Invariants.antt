-- The variables passed, and those that are left.
use Rattle.std.proofs.Common.{◌≡◌, ◌++◌, map, drop}
use Rattle.std.specs.Prelude.{◌&&◌}
use Rattle.std.specs.List.{flat_map}
use Rattle.adj_tree.specs.Code.{plain}
use Rattle.def_flow.specs.Rules.{list_of, somewhere}
use Rattle.def_names.specs.VariableLists.{list_if}
use Rattle.adj_flow.specs.Rows.{row_of}
use Rattle.adj_flow.specs.WayView.{way_of}
use Rattle.adj_flow.specs.Nodes.{node_in}
use Rattle.adj_flow.specs.NodeView.{vars_of, told_at}
use Rattle.adj_activity.specs.Starts.{is_useful_in, active_nodes}
use Rattle.adj_activity.proofs.starts.add_active.Given as goal

abbrev pub invariant-loop-name : goal.invariant-loop-name
invariant-loop-name l =
    l.nodes.items
    ++ flat_map
    (λ v. list_if (somewhere (map way_of l.part.ways.items) (λ p. told_at l.sets.varied.now l.width (row_of l.part) p v) && is_useful_in l.sets.useful l.width (row_of l.part) v) (list_of (node_in l.width (vars_of (row_of l.part)) (l.part.number, v))))
    (map (λ n. plain n) (drop l.name-index l.name-items))
    ≡ l.initial.nodes.items ++ active_nodes l.sets.varied.now l.sets.useful l.width (row_of l.part)
