-- None of the variables passed is saved.
use Rattle.std.proofs.Common.{◌≡◌, map, drop}
use Rattle.std.specs.List.{list_any}
use Rattle.adj_tree.specs.Code.{plain}
use Rattle.adj_flow.specs.Nodes.{node_in}
use Rattle.adj_flow.specs.NodeView.{vars_of}
use Rattle.adj_flow.specs.Rows.{row_of}
use Rattle.adj_flow.specs.Told.{flag_at}
use Rattle.adj_plan.specs.View.{is_saved_in}
use Rattle.adj_plan.proofs.lines.is_saved.Given as goal

abbrev pub invariant-loop-name : goal.invariant-loop-name
invariant-loop-name l =
    list_any (λ v. flag_at l.flags (node_in l.width (vars_of (row_of l.part)) (l.statement, v))) (map plain (drop l.name-index l.name-items))
    ≡ is_saved_in l.flags l.width (vars_of (row_of l.part)) l.statement
