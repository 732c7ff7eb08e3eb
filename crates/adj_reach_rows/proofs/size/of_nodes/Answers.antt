use Rattle.std.proofs.Common.{◌≤◌, ◌/◌, arith}
use Rattle.adj_reach.proofs.Greatest.{all_more, all_end}
use Rattle.adj_reach_rows.proofs.size.of_nodes.Goals as goal

pub loop-node-preserved : goal.loop-node-preserved
loop-node-preserved c =
    all_more (λ x. x / c.args.width ≤ c.loop-node.greatest) (λ x. x / c.args.width ≤ c.greater-greatest.result) c.args.nodes.now c.loop-node.node-index 0 c.loop-node-test.true
    (λ z h. omega (arith, h, c.greater-greatest.ensures.first)) c.greater-greatest.ensures.second c.loop-node.invariant

pub returns : goal.returns
returns c = record { greatest = all_end (λ x. x / c.args.width ≤ c.loop-node.greatest) c.args.nodes.now c.loop-node.node-index c.loop-node-test.false c.loop-node.invariant }
