-- What the arcs and the other edges reach is what the edges reach.
use Rattle.std.proofs.Common.{ℕ, ◌*◌, ◌<◌, List, map, max, ap, ◌∙◌, subst, arith}
use Rattle.std.specs.Prelude.{◌↔◌, IsTrue, IfOk}
use Rattle.std.proofs.lemmas.Result.{IfOk-weaker}
use Rattle.adj_flow.specs.Rows.{row_of}
use Rattle.adj_flow.proofs.UnitNumbers.{rows_narrow}
use Rattle.adj_reach.specs.Edges.{Edges, ReachedBack, flag}
use Rattle.adj_reach_rows.specs.Against.{ReachedBackByRows}
use Rattle.adj_reach_rows.specs.declared.arc.Arc.{Arc}
use Rattle.adj_activity.specs.View.{flow_listed}
use Rattle.adj_activity.specs.Arcs.{flow_arcs, all_others}
use Rattle.adj_activity.specs.Starts.{point_nodes}
use Rattle.adj_activity.specs.declared.steps.Steps.TheVariants.{Flow}
use Rattle.adj_activity.proofs.Arcs.{flow_reached_back}
use Rattle.adj_activity.proofs.finding.useful.Goals as goal

pub reached_back_by_rows-requires-clause-some : goal.reached_back_by_rows-requires-clause-some
reached_back_by_rows-requires-clause-some c = let width = c.requires.along.width in omega (arith, width)

pub returns : goal.returns
returns c =
    let fl = c.args.flow.now in
    let s = c.args.along.now in
    let is = c.requires.along in
    let rs = map row_of fl.parts.items in
    let r = row_of c.args.part.now in
    let start = point_nodes fl.width r r.part.end c.args.head.now.outvars in
    let width = is.width in
    let arcs = c.as_slice-2.ensures.value ∙ is.arcs in
    let edges = c.as_slice-3.ensures.value ∙ is.edges in
    let nodes = c.as_slice-4.ensures.value ∙ c.in_ok-end.ensures.nodes ∙ ap (λ z. point_nodes c.args.flow.now.width (row_of c.args.part.now) (row_of c.args.part.now).part.end z) c.as_slice.ensures.members in
    let wide = subst (λ z. z < 64 * s.rows.words) width is.wide in
    let exact = subst (λ (z : ℕ × List Arc × Edges × List ℕ). IfOk c.reached_back_by_rows.result (λ g. (m : ℕ) → IsTrue (flag g m) ↔ ReachedBackByRows z.0 s.rows z.1 z.2 z.3 m)) (λ i. (width i, arcs i, edges i, nodes i)) c.reached_back_by_rows.ensures.exact in
    record {
      useful = IfOk-weaker c.reached_back_by_rows.result (λ g. (m : ℕ) → IsTrue (flag g m) ↔ ReachedBackByRows (max fl.width 1) s.rows (flow_arcs rs fl.taking) (all_others Flow rs fl.numbers fl.taking fl.width) start m)
          (λ g. (m : ℕ) → IsTrue (flag g m) ↔ ReachedBack (flow_listed rs fl.numbers fl.taking fl.width) start m)
          (λ g h m. let t = flow_reached_back rs fl.numbers fl.taking fl.width s.rows (rows_narrow fl fl.width c.requires.flow) wide is.places start m in ((λ b. t.0 ((h m).0 b)), (λ b. (h m).1 (t.1 b)))) exact;
    }
