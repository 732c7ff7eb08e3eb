use Rattle.std.proofs.Common.{ap, ◌∙◌, ◌++◌}
use Rattle.std.specs.Prelude.{not, ◌&&◌}
use Rattle.adj_tree.specs.Code.{Var, plain}
use Rattle.def_flow.specs.Ways.{assigned_on, passed_on}
use Rattle.def_names.specs.VariableLists.{list_if}
use Rattle.adj_flow.specs.Rows.{row_of}
use Rattle.adj_flow.specs.WayView.{number_of, deed_of}
use Rattle.adj_symbols_writes.proofs.Stepping.{flat_more}
use Rattle.adj_flow.specs.Nodes.{linked, node_in}
use Rattle.adj_flow.specs.NodeView.{vars_of}
use Rattle.adj_activity.proofs.ways.add_way.Goals as goal

pub loop-name-preserved : goal.loop-name-preserved
loop-name-preserved c =
    let vs = vars_of (row_of c.args.part.now) in
    let f = λ (v : Var). list_if (not (assigned_on (deed_of c.args.way.deed) v) && not (passed_on (deed_of c.args.way.deed) v)) (linked (node_in c.args.width vs (number_of c.args.way.from, v)) (node_in c.args.width vs (number_of c.args.way.to, v))) in
    let x = c.name-item.result in
    let from = c.number.ensures.number in
    let to = c.number-2.ensures.number in
    let carried = c.is_carried-is_carried.ensures.carried ∙ ap (λ b. not (assigned_on (deed_of c.args.way.deed) (plain x)) && not b) (c.in_ok-passed.ensures.passed x) in
    flat_more (λ n. plain n) f c.as_slice-name-items.result.now c.loop-name.name-index c.name-item.result c.loop-name.edges.items c.add_carried.new.edges.items c.loop-name-test.true c.name-item.is
    (c.in_ok-add_carried.ensures.added ∙ (λ i. c.loop-name.edges.items ++ list_if (carried i) (linked (node_in c.args.width vs (from i, plain x)) (node_in c.args.width vs (to i, plain x)))))
    ∙ c.loop-name.invariant
