-- With no arcs the edges alone lead on.
use Rattle.std.proofs.Common.{ℕ, List, [], map, subst, ◌∙◌}
use Rattle.std.specs.Prelude.{◌↔◌, IsTrue, IfOk}
use Rattle.std.proofs.lemmas.Result.{IfOk-weaker}
use Rattle.adj_flow.specs.Rows.{row_of}
use Rattle.adj_flow.proofs.Carrying.{reached_by_edges}
use Rattle.adj_reach.specs.Edges.{Edges, ReachedFrom, flag}
use Rattle.adj_reach_rows.specs.Arcs.{ReachedByRows}
use Rattle.adj_activity.specs.View.{adjoints_listed}
use Rattle.adj_activity.specs.Starts.{all_outright}
use Rattle.adj_activity.proofs.finding.adjointed.Goals as goal

pub returns : goal.returns
returns c =
    let fl = c.args.flow.now in
    let rs = map row_of fl.parts.items in
    let rows = c.in_ok-rows.rows in
    let edges = adjoints_listed rs fl.numbers fl.taking fl.width in
    let nodes = all_outright c.args.found rs fl.taking fl.width in
    let led = c.as_slice.ensures.value ∙ c.in_ok-edges.ensures.edges in
    let start = c.as_slice-2.ensures.value ∙ c.in_ok-nodes.ensures.outright in
    let exact = subst (λ (z : Edges × List ℕ). IfOk c.reached_by_rows.result (λ g. (m : ℕ) → IsTrue (flag g m) ↔ ReachedByRows 2 rows [] z.0 z.1 m)) (λ i. (led i, start i)) c.reached_by_rows.ensures.exact in
    record {
      adjointed = IfOk-weaker c.reached_by_rows.result (λ g. (m : ℕ) → IsTrue (flag g m) ↔ ReachedByRows 2 rows [] edges nodes m) (λ g. (m : ℕ) → IsTrue (flag g m) ↔ ReachedFrom edges nodes m)
          (λ g h m. let r = reached_by_edges 2 rows edges nodes m in ((λ t. r.0 ((h m).0 t)), (λ t. (h m).1 (r.1 t)))) exact;
    }
