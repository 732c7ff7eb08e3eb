use Rattle.std.proofs.Common.{ap, ◌∙◌, ◌++◌, map}
use Rattle.std.specs.Prelude.{◌&&◌}
use Rattle.adj_tree.specs.Code.{Var, plain}
use Rattle.def_flow.specs.Rules.{list_of, somewhere}
use Rattle.def_names.specs.VariableLists.{list_if}
use Rattle.adj_flow.specs.Rows.{row_of}
use Rattle.adj_flow.specs.WayView.{way_of}
use Rattle.adj_symbols_writes.proofs.Stepping.{flat_more}
use Rattle.adj_flow.specs.Nodes.{node_in}
use Rattle.adj_flow.specs.NodeView.{vars_of, told_at}
use Rattle.adj_activity.specs.Starts.{is_useful_in}
use Rattle.adj_activity.proofs.starts.add_active.Goals as goal

pub loop-name-preserved : goal.loop-name-preserved
loop-name-preserved c =
    let r = row_of c.args.part.now in
    let f = λ (v : Var). list_if (somewhere (map way_of c.args.part.now.ways.items) (λ p. told_at c.args.sets.varied.now c.args.width r p v) && is_useful_in c.args.sets.useful c.args.width r v) (list_of (node_in c.args.width (vars_of r) (c.args.part.now.number, v))) in
    let x = c.name-item.result in
    flat_more (λ n. plain n) f c.as_slice-name-items.result.now c.loop-name.name-index c.name-item.result c.loop-name.nodes.items c.add_node.new.nodes.items c.loop-name-test.true c.name-item.is
    (c.in_ok-add_node.ensures.added ∙ ap (λ b. c.loop-name.nodes.items ++ list_if b (list_of (node_in c.args.width (vars_of r) (c.args.part.now.number, plain x)))) c.is_active-is_active.ensures.active)
    ∙ c.loop-name.invariant
