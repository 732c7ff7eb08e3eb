use Rattle.std.proofs.Common.{◌+◌, ◌≤◌, arith}
use Rattle.def_text.proofs.Parentheses.{matched_ends, matched_fails, matched_later}
use Rattle.adj_fixed.proofs.class.is_matched.Goals as goal
use Rattle.adj_fixed.proofs.class.is_matched.Goals.{else-c-eq41-via-then-c-eq41+else-depth-eq0, else-c-eq41-via-else-c-eq41}

pub returns-then-depth-eq0 : goal.returns-then-depth-eq0
returns-then-depth-eq0 c = matched_fails c.loop-c.depth c.loop-c.c-index c.args.text.now _ c.loop-c.invariant.0 c.loop-c-test.true c.if-c-eq41.true c.if-depth-eq0.true

pub loop-c-preserved : goal.loop-c-preserved
loop-c-preserved c =
    let next = matched_later c.loop-c.depth c.loop-c.c-index c.args.text.now _ c.loop-c.invariant.0 c.loop-c-test.true c.depth_behind-depth.result in
    let deep : c.depth_behind-depth.result ≤ c.loop-c.c-index + 1 = omega (arith, c.depth_behind-depth.ensures.within, c.loop-c.invariant.1) in
    elim c.else-c-eq41.branch [
      | else-c-eq41-via-then-c-eq41+else-depth-eq0 w ↦ (next (λ _ none. w.if-depth-eq0.false none) c.depth_behind-depth.ensures.value, deep)
      | else-c-eq41-via-else-c-eq41 w ↦ (next (λ same _. w.if-c-eq41.false same) c.depth_behind-depth.ensures.value, deep)
    ]

pub returns : goal.returns
returns c = matched_ends c.loop-c.depth c.loop-c.c-index c.args.text.now _ c.loop-c.invariant.0 c.loop-c-test.false
