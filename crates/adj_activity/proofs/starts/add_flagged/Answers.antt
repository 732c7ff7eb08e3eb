use Rattle.std.proofs.Common.{ℕ, List, ◌++◌}
use Rattle.adj_tree.specs.Code.{plain}
use Rattle.def_flow.specs.Rules.{list_of}
use Rattle.adj_flow.specs.Rows.{row_of}
use Rattle.adj_flow.specs.Nodes.{node_in}
use Rattle.adj_flow.specs.NodeView.{vars_of}
use Rattle.adj_activity.specs.Starts.{point_nodes}
use Rattle.adj_activity.proofs.Flagging.{flagged_end}
use Rattle.adj_activity.proofs.starts.add_flagged.Goals as goal

pub returns : goal.returns
returns c =
    let r = row_of c.args.part.now in
    let f = λ (d : List ℕ). list_of (node_in c.args.width (vars_of r) (c.args.point, plain d)) in
    record { added = flagged_end f c.args.flags.now c.as_slice-dummies.result.now c.loop-place.place c.loop-place.nodes.items (c.args.nodes.now.items ++ point_nodes c.args.width r c.args.point c.args.flags.now) c.loop-place-test.false c.loop-place.invariant }
