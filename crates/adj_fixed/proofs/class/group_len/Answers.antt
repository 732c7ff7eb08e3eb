use Rattle.std.proofs.Common.{◌+◌, ◌≤◌, arith}
use Rattle.def_text.proofs.Parentheses.{group_ends, group_here, group_later}
use Rattle.adj_fixed.proofs.class.group_len.Goals as goal
use Rattle.adj_fixed.proofs.class.group_len.Goals.{else-c-eq41-via-then-c-eq41+else-depth-eq1, else-c-eq41-via-else-c-eq41}

pub returns-then-depth-eq1-clause-value : goal.returns-then-depth-eq1-clause-value
returns-then-depth-eq1-clause-value c = group_here c.loop-i.depth c.loop-i.i c.args.text.now _ c.loop-i.invariant.0 c.loop-i-test.true c.if-c-eq41.true c.if-depth-eq1.true

pub loop-i-preserved : goal.loop-i-preserved
loop-i-preserved c =
    let next = group_later c.loop-i.depth c.loop-i.i c.args.text.now _ c.loop-i.invariant.0 c.loop-i-test.true c.depth_behind-depth.result in
    let deep : c.depth_behind-depth.result ≤ c.loop-i.i + 1 = omega (arith, c.depth_behind-depth.ensures.within, c.loop-i.invariant.1) in
    elim c.else-c-eq41.branch [
      | else-c-eq41-via-then-c-eq41+else-depth-eq1 w ↦ (next (λ _ last. w.if-depth-eq1.false last) c.depth_behind-depth.ensures.value, deep)
      | else-c-eq41-via-else-c-eq41 w ↦ (next (λ same _. w.if-c-eq41.false same) c.depth_behind-depth.ensures.value, deep)
    ]

pub returns-clause-value : goal.returns-clause-value
returns-clause-value c = group_ends c.loop-i.depth c.loop-i.i c.args.text.now _ c.loop-i.invariant.0 c.loop-i-test.false
