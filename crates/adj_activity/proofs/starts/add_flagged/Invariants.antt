-- The dummies passed, and those that are left.
use Rattle.std.proofs.Common.{◌≡◌, ◌++◌, drop}
use Rattle.std.specs.List.{flat_map}
use Rattle.adj_tree.specs.Code.{plain}
use Rattle.def_flow.specs.Problem.{flagged}
use Rattle.def_flow.specs.Rules.{list_of}
use Rattle.adj_flow.specs.Rows.{row_of}
use Rattle.adj_flow.specs.Nodes.{node_in}
use Rattle.adj_flow.specs.NodeView.{vars_of}
use Rattle.adj_activity.specs.Starts.{point_nodes}
use Rattle.adj_activity.proofs.starts.add_flagged.Given as goal

abbrev pub invariant-loop-place : goal.invariant-loop-place
invariant-loop-place l =
    l.nodes.items ++ flat_map (λ d. list_of (node_in l.width (vars_of (row_of l.part)) (l.point, plain d))) (flagged (drop l.place l.flags) (drop l.place l.dummies))
    ≡ l.initial.nodes.items ++ point_nodes l.width (row_of l.part) l.point l.flags
