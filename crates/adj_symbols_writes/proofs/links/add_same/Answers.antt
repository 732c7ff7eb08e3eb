use Rattle.std.proofs.Common.{◌≡◌, suc, ◌+◌, ◌++◌, ◌∷◌, length, drop, sym, ap, ◌∙◌, append_assoc, arith}
use Rattle.std.proofs.lemmas.List.{drop_more}
use Rattle.adj_symbols_writes.specs.Graph.{placed_of, edge_from, same_edges}
use Rattle.adj_symbols_writes.proofs.links.add_same.Goals as goal

pub overflow_add-node : goal.overflow_add-node
overflow_add-node c =
    let l : length c.as_slice-name-items.result.now ≡ length c.args.dummies.now.unit.dummies = ap length (c.as_slice-name-items.ensures.members ∙ ap (λ u. u.dummies) c.unit-unit.ensures.unit) in
    omega (arith, l, c.loop-name.invariant.passed, c.first-node.ensures.room, c.first-node.ensures.first, c.loop-name-test.true)

pub loop-name-preserved : goal.loop-name-preserved
loop-name-preserved c =
    let p = placed_of c.args.dummies.now in
    let ds = c.as_slice-name-items.result.now in
    let i = c.loop-name.name-index in
    let n = c.loop-name.node in
    let old = c.loop-name.out.items in
    let d = c.name-item.result in
    let first = drop_more ds i d c.loop-name-test.true ∙ ap (λ z. z ∷ drop (i + 1) ds) (sym c.name-item.is) in
    let next : n + 1 ≡ suc n = omega arith in
    record {
      passed = omega (arith, c.loop-name.invariant.passed);
      so_far =
          (λ k. (c.in_ok-add_edge_from.ensures.added k) ++ same_edges p (next k) (drop (i + 1) ds))
          ∙ append_assoc old (edge_from c.node.result n) (same_edges p (suc n) (drop (i + 1) ds))
          ∙ ap (λ o. old ++ (edge_from o n ++ same_edges p (suc n) (drop (i + 1) ds))) c.node.ensures.node
          ∙ ap (λ z. old ++ same_edges p n z) (sym first)
          ∙ c.loop-name.invariant.so_far;
    }
