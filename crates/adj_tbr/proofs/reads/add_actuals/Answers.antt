use Rattle.std.proofs.Common.{◌++◌, map, ap, ◌∙◌}
use Rattle.std.specs.List.{flat_map}
use Rattle.def_names.specs.Numbering.{point_before}
use Rattle.def_flow.specs.Rules.{list_of}
use Rattle.def_names.specs.VariableLists.{list_if}
use Rattle.adj_flow.specs.Nodes.{node_in}
use Rattle.adj_flow.specs.NodeView.{vars_of}
use Rattle.adj_flow.specs.Rows.{row_of}
use Rattle.adj_flow.specs.View.{standing_of}
use Rattle.adj_tbr.specs.Bound.{Passed, passed_of}
use Rattle.adj_tbr.specs.Reads.{is_wanted}
use Rattle.adj_tbr.proofs.reads.add_actuals.Goals as goal

pub loop-bound-init : goal.loop-bound-init
loop-bound-init c =
    let s = c.args.setting in
    let at = standing_of c.args.standing.now in
    let vs = vars_of (row_of c.args.part.now) in
    ap (λ p. c.args.nodes.now.items ++ flat_map (λ (b : Passed). list_if (is_wanted s.found s.sides s.width at (row_of c.args.called.now) b) (list_of (node_in s.width vs (p, b.2)))) (map passed_of c.args.bounds.now)) (c.number-point.ensures.number ∙ ap point_before c.site.ensures.is)
