-- What they reach turned round is what is reached against them.
use Rattle.std.proofs.Common.{ℕ, List, map, ◌∙◌, subst}
use Rattle.std.specs.Prelude.{◌↔◌, IsTrue, IfOk}
use Rattle.std.proofs.lemmas.Result.{IfOk-weaker}
use Rattle.adj_reach.specs.Edges.{Edges, flag}
use Rattle.adj_reach_rows.specs.Arcs.{ReachedByRows}
use Rattle.adj_reach_rows.specs.Against.{ReachedBackByRows, turned_arc, turned_edge}
use Rattle.adj_reach_rows.specs.declared.arc.Arc.{Arc}
use Rattle.adj_reach_rows.proofs.Turned.{turned_reached}
use Rattle.adj_reach_rows.proofs.turning.reached_back_by_rows.Goals as goal

pub returns : goal.returns
returns c =
    let w = c.args.width in
    let rows = c.args.rows.now in
    let arcs = c.args.arcs.now in
    let edges = c.args.edges.now in
    let start = c.args.start.now in
    let back = c.as_slice.ensures.value ∙ c.in_ok-back.ensures.turned in
    let led = c.as_slice-2.ensures.value ∙ c.in_ok-led.ensures.turned in
    let exact = subst (λ (z : List Arc × Edges). IfOk c.reached_by_rows.result (λ g. (m : ℕ) → IsTrue (flag g m) ↔ ReachedByRows w rows z.0 z.1 start m)) (λ i. (back i, led i)) c.reached_by_rows.ensures.exact in
    record {
      exact = IfOk-weaker c.reached_by_rows.result (λ g. (m : ℕ) → IsTrue (flag g m) ↔ ReachedByRows w rows (map turned_arc arcs) (map turned_edge edges) start m) (λ g. (m : ℕ) → IsTrue (flag g m) ↔ ReachedBackByRows w rows arcs edges start m)
          (λ g h m. let r = turned_reached w rows arcs edges start m in ((λ t. r.0 ((h m).0 t)), (λ t. (h m).1 (r.1 t)))) exact;
    }
