use Rattle.std.proofs.Common.{◌≡◌, ◌++◌, true, map, sym, ap, ◌∙◌}
use Rattle.std.specs.List.{flat_map}
use Rattle.adj_tree.specs.View.{terms_of}
use Rattle.def_flow.specs.Uses.{site}
use Rattle.def_names.specs.VariableLists.{list_if}
use Rattle.adj_flow.specs.Rows.{row_of}
use Rattle.adj_flow.specs.View.{place_of, standing_of}
use Rattle.adj_tbr.specs.Bound.{Passed, passed_of, bound_from}
use Rattle.adj_tbr.specs.Reads.{node_before, is_wanted}
use Rattle.adj_tbr.specs.View.{adjointed_by}
use Rattle.adj_tbr.proofs.reads.add_found.Goals as goal

pub returns-in_ok-add_actuals : goal.returns-in_ok-add_actuals
returns-in_ok-add_actuals c =
    let s = c.args.setting in
    let n = c.args.standing.now.number in
    let at = place_of c.args.standing.now.place in
    let f = λ (b : Passed). list_if (is_wanted s.found s.sides s.width (standing_of c.args.standing.now) (row_of c.args.called.now) b) (node_before s.width (row_of c.args.part.now) (site true n at) b.2) in
    let bounds : map passed_of c.as_slice-then-is_adjointed.result.now ≡ bound_from 0 c.args.called.now.unit.now.dummies (terms_of c.args.actuals.now) =
    ap (map passed_of) c.as_slice-then-is_adjointed.ensures.value ∙ c.in_ok-bounds.ensures.bounds ∙ ap (λ d. bound_from 0 d (terms_of c.args.actuals.now)) c.as_slice.ensures.members in
    let adjointed : true ≡ adjointed_by c.args.setting.found c.args.standing.now.number = sym c.if-is_adjointed.true ∙ c.is_adjointed.ensures.adjointed in
    record { added = c.in_ok-add_actuals.ensures.added ∙ (λ i. c.args.nodes.now.items ++ list_if (adjointed i) (flat_map f (bounds i))) }
