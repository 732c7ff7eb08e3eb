-- What the arcs reach is what the edges reach, from the last node on as from the first.
use Rattle.std.proofs.Common.{ℕ, ◌*◌, ◌<◌, ◌≤◌, List, [], map, max, sym, ◌∙◌, subst, arith}
use Rattle.std.specs.Prelude.{◌↔◌, IsTrue, IfOk}
use Rattle.std.specs.List.Sorted.{IsPermutation}
use Rattle.std.proofs.lemmas.Result.{IfOk-weaker}
use Rattle.adj_flow.specs.Rows.{row_of}
use Rattle.adj_flow.proofs.UnitNumbers.{rows_narrow, wider}
use Rattle.adj_reach.specs.Edges.{ReachedFrom, flag}
use Rattle.adj_reach_rows.specs.Arcs.{ReachedByRows}
use Rattle.adj_reach_rows.specs.declared.arc.Arc.{Arc}
use Rattle.adj_tbr.specs.View.{find, held_edges, held_arcs}
use Rattle.adj_tbr.specs.Reads.{read_nodes}
use Rattle.adj_tbr.proofs.Arcs.{held_reached, reordered}
use Rattle.adj_tbr.proofs.finding.held.Goals as goal

pub variable_rows-requires : goal.variable_rows-requires
variable_rows-requires c =
    let width = c.max-width.ensures in
    let l : c.args.flow.now.width ≤ c.max-width.result = omega (arith, width) in
    record { flow = wider c.args.flow.now c.args.flow.now.width c.max-width.result l c.requires }

pub returns : goal.returns
returns c =
    let fl = c.args.flow.now in
    let s = c.args.setting in
    let rs = map row_of fl.parts.items in
    let rows = c.in_ok-rows.rows in
    let reads = read_nodes s.found s.sides (find (map row_of s.units.parts.now) s.units.numbers.now) rs fl.taking s.width in
    let width = c.max-width.ensures in
    let listed = c.as_slice.ensures.value ∙ c.in_ok-arcs.ensures.arcs in
    let back = c.as_slice-2.result.now in
    let order : IsPermutation reads back = subst (λ (z : List ℕ × List ℕ). IsPermutation z.0 z.1) (λ i. (c.in_ok-reads.ensures.nodes i, sym c.as_slice-2.ensures.value i)) c.reverse.ensures.permutation in
    let wide = subst (λ z. z < 64 * rows.words) width c.in_ok-rows.ensures.wide in
    let exact = subst (λ (z : ℕ × List Arc). IfOk c.reached_by_rows.result (λ g. (m : ℕ) → IsTrue (flag g m) ↔ ReachedByRows z.0 rows z.1 [] back m)) (λ i. (width i, listed i)) c.reached_by_rows.ensures.exact in
    record {
      held = IfOk-weaker c.reached_by_rows.result (λ g. (m : ℕ) → IsTrue (flag g m) ↔ ReachedByRows (max fl.width 1) rows (held_arcs s.found rs fl.taking) [] back m) (λ g. (m : ℕ) → IsTrue (flag g m) ↔ ReachedFrom (held_edges s.found rs fl.taking fl.width) reads m)
          (λ g h m.
          let o = reordered (max fl.width 1) rows (held_arcs s.found rs fl.taking) reads back order m in
          let r = held_reached s.found rs fl.taking fl.width rows (rows_narrow fl fl.width c.requires) wide c.in_ok-rows.ensures.places reads m in
          ((λ t. r.0 (o.0 ((h m).0 t))), (λ t. (h m).1 (o.1 (r.1 t)))))
          exact;
    }
