use Rattle.std.proofs.Common.{ℕ, List, ap, ◌∙◌, ◌++◌, map}
use Rattle.def_names.specs.VariableLists.{list_if}
use Rattle.adj_flow.specs.Rows.{Row, row_of}
use Rattle.adj_reach.specs.Edges.{flag}
use Rattle.adj_symbols_writes.specs.Table.{value_of}
use Rattle.adj_symbols_writes.proofs.Stepping.{flat_more}
use Rattle.adj_flow.specs.NodeView.{found_at}
use Rattle.adj_activity.specs.Arcs.{other_edges}
use Rattle.adj_activity.proofs.listing.edges.Goals as goal

pub loop-part-preserved : goal.loop-part-preserved
loop-part-preserved c =
    let find = λ (x : List ℕ). found_at (map row_of c.args.flow.now.parts.items) (value_of x c.args.flow.now.numbers) in
    let f = λ (r : Row). list_if (flag c.args.flow.now.taking r.part.number) (other_edges c.args.steps find c.args.flow.now.width r) in
    let p = c.part-item.result in
    let taking = c.flag_at-takes_part.ensures ∙ ap (λ z. flag z c.part-item.result.number) c.as_slice-taking.ensures.members in
    let same = c.as_slice-parts.ensures.value in
    flat_more row_of f c.as_slice-parts.result.now c.loop-part.part-index c.part-item.result c.loop-part.edges.items c.add_unit.new.edges.items c.loop-part-test.true c.part-item.is
    (c.in_ok-add_unit.ensures.added ∙ (λ i. c.loop-part.edges.items ++ list_if (taking i) (other_edges c.args.steps (λ x. found_at (map row_of (same i)) (value_of x c.args.flow.now.numbers)) c.args.flow.now.width (row_of p))))
    ∙ c.loop-part.invariant
