use Rattle.std.proofs.Common.{◌≡◌, length, ap, ◌∙◌, arith}
use Rattle.adj_symbols_writes.proofs.sets.row.Goals as goal

pub overflow_add-node : goal.overflow_add-node
overflow_add-node c =
    let l : length c.as_slice-dummy-items.result.now ≡ length c.args.dummies.now.unit.dummies = ap length (c.as_slice-dummy-items.ensures.members ∙ ap (λ u. u.dummies) c.unit-unit.ensures.unit) in
    omega (arith, l, c.loop-dummy.invariant.passed, c.first-node.ensures.room, c.first-node.ensures.first, c.loop-dummy-test.true)
