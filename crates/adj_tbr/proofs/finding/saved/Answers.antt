-- With no steps the nodes themselves are reached.
use Rattle.std.proofs.Common.{ℕ, [], map, subst, ◌∙◌}
use Rattle.std.specs.Prelude.{◌↔◌, IsTrue, IfOk}
use Rattle.std.proofs.lemmas.Result.{IfOk-weaker}
use Rattle.adj_flow.specs.Rows.{row_of}
use Rattle.adj_flow.proofs.Carrying.{reached_by_edges}
use Rattle.adj_reach.specs.Edges.{ReachedFrom, flag}
use Rattle.adj_reach_rows.specs.Arcs.{ReachedByRows}
use Rattle.adj_tbr.specs.View.{find}
use Rattle.adj_tbr.specs.Saves.{save_nodes}
use Rattle.adj_tbr.proofs.finding.saved.Goals as goal

pub returns : goal.returns
returns c =
    let fl = c.args.flow.now in
    let s = c.args.setting in
    let rows = c.in_ok-rows.rows in
    let nodes = save_nodes c.args.held.now s.found s.sides (find (map row_of s.units.parts.now) s.units.numbers.now) (map row_of fl.parts.items) fl.taking s.width in
    let listed = c.as_slice.ensures.value ∙ c.in_ok-nodes.ensures.nodes in
    let exact = subst (λ z. IfOk c.reached_by_rows.result (λ g. (m : ℕ) → IsTrue (flag g m) ↔ ReachedByRows c.max-width.result rows [] [] z m)) listed c.reached_by_rows.ensures.exact in
    record {
      saved = IfOk-weaker c.reached_by_rows.result (λ g. (m : ℕ) → IsTrue (flag g m) ↔ ReachedByRows c.max-width.result rows [] [] nodes m) (λ g. (m : ℕ) → IsTrue (flag g m) ↔ ReachedFrom [] nodes m)
          (λ g h m. let r = reached_by_edges c.max-width.result rows [] nodes m in ((λ t. r.0 ((h m).0 t)), (λ t. (h m).1 (r.1 t)))) exact;
    }
