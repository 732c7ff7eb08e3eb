use Rattle.std.proofs.Common.{◌≤◌, arith}
use Rattle.adj_reach.proofs.Greatest.{all_more, all_end}
use Rattle.adj_reach.proofs.bounded.greatest.Goals as goal

pub loop-number-preserved : goal.loop-number-preserved
loop-number-preserved c =
    all_more (λ n. n ≤ c.loop-number.greatest) (λ n. n ≤ c.greater-greatest.result) c.args.numbers.now c.loop-number.number-index 0 c.loop-number-test.true (λ z h. omega (arith, h, c.greater-greatest.ensures.first)) (c.greater-greatest.ensures.second) c.loop-number.invariant

pub returns : goal.returns
returns c = record { greatest = all_end (λ n. n ≤ c.loop-number.greatest) c.args.numbers.now c.loop-number.number-index c.loop-number-test.false c.loop-number.invariant }
