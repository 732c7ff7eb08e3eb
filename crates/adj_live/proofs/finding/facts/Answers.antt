-- What the arcs and the other edges reach is what all edges reach.
use Rattle.std.proofs.Common.{◌≡◌, ℕ, ◌+◌, ◌*◌, ◌<◌, ◌≤◌, List, map, length, sym, ap, ◌∙◌, subst, arith}
use Rattle.std.specs.Prelude.{◌↔◌, IsTrue, IfOk, Contains}
use Rattle.std.proofs.lemmas.Result.{IfOk-weaker}
use Rattle.adj_flow.specs.NodeView.{vars_of}
use Rattle.adj_flow.specs.Rows.{Row, row_of}
use Rattle.adj_flow.proofs.UnitNumbers.{rows_narrow, wider}
use Rattle.adj_reach.specs.Edges.{Edges, ReachedFrom, flag}
use Rattle.adj_reach_rows.specs.Arcs.{ReachedByRows}
use Rattle.adj_reach_rows.specs.declared.arc.Arc.{Arc}
use Rattle.adj_live.specs.Listed.{all_nodes, all_edges, all_arcs, all_others}
use Rattle.adj_live.specs.View.{here_in}
use Rattle.adj_live.proofs.Arcs.{all_reached}
use Rattle.adj_live.proofs.finding.facts.Goals as goal

pub variable_rows-requires : goal.variable_rows-requires
variable_rows-requires c =
    let s : c.stride-width.result ≡ c.args.flow.now.width + 2 = c.stride-width.ensures.stride in
    record { flow = wider c.args.flow.now c.args.flow.now.width c.stride-width.result (omega (arith, s)) c.requires.flow }

pub reached_by_rows-requires-clause-some : goal.reached_by_rows-requires-clause-some
reached_by_rows-requires-clause-some c = let s : c.stride-width.result ≡ c.args.flow.now.width + 2 = c.stride-width.ensures.stride in omega (arith, s)

pub returns : goal.returns
returns c =
    let fl = c.args.flow.now in
    let k = c.args.known in
    let rs = map row_of fl.parts.items in
    let here = here_in k in
    let rows = c.in_ok-rows.rows in
    let start = all_nodes here rs fl.taking in
    let width : c.stride-width.result ≡ c.args.known.width + 2 = c.stride-width.ensures.stride ∙ ap (λ z. z + 2) (sym c.requires.width) in
    let arcs = c.as_slice.ensures.value ∙ c.in_ok-arcs.ensures.arcs in
    let edges = c.as_slice-2.ensures.value ∙ c.in_ok-edges.ensures.edges in
    let nodes = c.as_slice-3.ensures.value ∙ c.in_ok-nodes.ensures.nodes in
    let wide = subst (λ z. z < 64 * rows.words) width c.in_ok-rows.ensures.wide in
    let narrow = λ (r : Row) (m : Contains rs r). subst (λ z. length (vars_of r) ≤ z) (sym c.requires.width) (rows_narrow fl fl.width c.requires.flow r m) in
    let exact = subst (λ (z : ℕ × List Arc × Edges × List ℕ). IfOk c.reached_by_rows.result (λ g. (m : ℕ) → IsTrue (flag g m) ↔ ReachedByRows z.0 rows z.1 z.2 z.3 m)) (λ i. (width i, arcs i, edges i, nodes i)) c.reached_by_rows.ensures.exact in
    record {
      facts = IfOk-weaker c.reached_by_rows.result (λ g. (m : ℕ) → IsTrue (flag g m) ↔ ReachedByRows (k.width + 2) rows (all_arcs here rs fl.taking) (all_others here rs fl.taking) start m) (λ g. (m : ℕ) → IsTrue (flag g m) ↔ ReachedFrom (all_edges here rs fl.taking) start m)
          (λ g h m. let t = all_reached k rs fl.taking rows narrow wide c.in_ok-rows.ensures.places start m in ((λ b. t.0 ((h m).0 b)), (λ b. (h m).1 (t.1 b)))) exact;
    }
