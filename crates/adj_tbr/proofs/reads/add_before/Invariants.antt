-- The numbers of the variables passed, and of those that are left.
use Rattle.std.proofs.Common.{◌≡◌, ◌++◌, drop}
use Rattle.std.specs.List.{flat_map}
use Rattle.def_flow.specs.Rules.{list_of}
use Rattle.adj_symbols_writes.specs.View.{vars_seen}
use Rattle.adj_flow.specs.Nodes.{node_in}
use Rattle.adj_flow.specs.NodeView.{vars_of}
use Rattle.adj_flow.specs.Rows.{row_of}
use Rattle.adj_tbr.specs.Reads.{node_before}
use Rattle.adj_tbr.proofs.reads.add_before.Given as goal

abbrev pub invariant-loop-name : goal.invariant-loop-name
invariant-loop-name l =
    l.nodes.items ++ flat_map (λ v. list_of (node_in l.width (vars_of (row_of l.part)) (l.point, v))) (vars_seen (drop l.name-index l.names)) ≡ l.initial.nodes.items ++ flat_map (node_before l.width (row_of l.part) l.statement) (vars_seen l.names)
