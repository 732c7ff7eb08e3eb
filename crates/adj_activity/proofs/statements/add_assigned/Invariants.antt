-- The edges of the variables passed, and of those that are left.
use Rattle.std.proofs.Common.{◌≡◌, ◌+◌, ◌*◌, ◌++◌, drop}
use Rattle.std.specs.List.{flat_map}
use Rattle.adj_tree.specs.Code.{plain}
use Rattle.adj_symbols_writes.specs.View.{vars_seen}
use Rattle.adj_flow.specs.Rows.{row_of}
use Rattle.adj_flow.specs.Nodes.{linked, node_in}
use Rattle.adj_flow.specs.NodeView.{vars_of}
use Rattle.adj_activity.proofs.statements.add_assigned.Given as goal

abbrev pub invariant-loop-name : goal.invariant-loop-name
invariant-loop-name l =
    l.edges.items ++ flat_map (λ v. linked (node_in l.width (vars_of (row_of l.part)) (l.before, v)) (node_in l.width (vars_of (row_of l.part)) (l.after, plain l.target))) (vars_seen (drop l.name-index l.names))
    ≡ l.initial.edges.items ++ flat_map (λ v. linked (node_in l.width (vars_of (row_of l.part)) (3 * l.statement, v)) (node_in l.width (vars_of (row_of l.part)) (3 * l.statement + 1, plain l.target))) (vars_seen l.names)
