use Rattle.std.proofs.Common.{ℕ, ◌/◌, ◌<◌, map, length, get_or, arith}
use Rattle.std.proofs.lemmas.List.{get_or-map, get_or_read}
use Rattle.adj_reach_rows.proofs.Chaining.{chained_more}
use Rattle.adj_reach_rows.proofs.chains.edges_by_row.Goals as goal

pub loop-place-preserved : goal.loop-place-preserved
loop-place-preserved c =
    let es = c.args.edges.now in
    let w = c.args.width in
    let i = c.loop-place.place in
    let x : ℕ = (get_or c.args.edges.now c.loop-place.place (0, 0)).0 / c.args.width in
    let l : (get_or c.args.edges.now c.loop-place.place (0, 0)).0 / c.args.width < c.args.rows = c.requires.within i (0, 0) c.loop-place-test.true in
    let there : (get_or c.args.edges.now c.loop-place.place (0, 0)).0 / c.args.width < length c.loop-place.heads.items = omega (arith, l, c.loop-place.invariant.count) in
    chained_more c.args.rows (map (λ (e : ℕ × ℕ). e.0 / c.args.width) es) i c.loop-place.heads.items c.loop-place.next.items ((get_or es i (0, 0)).0 / w) c.index.result.now _ c.loop-place.invariant
    (get_or-map (λ (e : ℕ × ℕ). e.0 / c.args.width) es i (0, 0) 0 c.loop-place-test.true) l (get_or_read c.loop-place.heads.items ((get_or es i (0, 0)).0 / w) c.index.result.now there c.index.ensures 0) c.in_ok-push.ensures.items
