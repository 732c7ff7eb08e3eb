use Rattle.std.proofs.Common.{◌+◌, ◌≤◌, arith}
use Rattle.def_text.proofs.Parentheses.{open_ends, open_here, open_later}
use Rattle.adj_fixed.proofs.class.has_open.Goals as goal
use Rattle.adj_fixed.proofs.class.has_open.Goals.{else-c-sought-via-then-c-sought+else-depth-eq0, else-c-sought-via-else-c-sought}

pub returns-then-depth-eq0 : goal.returns-then-depth-eq0
returns-then-depth-eq0 c = open_here c.loop-c.depth c.loop-c.c-index c.args.text.now c.args.sought _ c.loop-c.invariant.0 c.loop-c-test.true c.if-c-sought.true c.if-depth-eq0.true

pub loop-c-preserved : goal.loop-c-preserved
loop-c-preserved c =
    let next = open_later c.loop-c.depth c.loop-c.c-index c.args.text.now c.args.sought _ c.loop-c.invariant.0 c.loop-c-test.true c.depth_behind-depth.result in
    let deep : c.depth_behind-depth.result ≤ c.loop-c.c-index + 1 = omega (arith, c.depth_behind-depth.ensures.within, c.loop-c.invariant.1) in
    elim c.else-c-sought.branch [
      | else-c-sought-via-then-c-sought+else-depth-eq0 w ↦ (next (λ _ none. w.if-depth-eq0.false none) c.depth_behind-depth.ensures.value, deep)
      | else-c-sought-via-else-c-sought w ↦ (next (λ same _. w.if-c-sought.false same) c.depth_behind-depth.ensures.value, deep)
    ]

pub returns : goal.returns
returns c = open_ends c.loop-c.depth c.loop-c.c-index c.args.text.now c.args.sought _ c.loop-c.invariant.0 c.loop-c-test.false
