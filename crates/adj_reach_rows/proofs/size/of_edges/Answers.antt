use Rattle.std.proofs.Common.{◌≤◌, ◌/◌, arith}
use Rattle.adj_reach.proofs.Greatest.{all_more, all_end}
use Rattle.adj_reach_rows.proofs.size.of_edges.Goals as goal

pub loop-edge-preserved : goal.loop-edge-preserved
loop-edge-preserved c =
    all_more (λ e. (e.0 / c.args.width ≤ c.loop-edge.greatest) × (e.1 / c.args.width ≤ c.loop-edge.greatest)) (λ e. (e.0 / c.args.width ≤ c.greater-greatest.result) × (e.1 / c.args.width ≤ c.greater-greatest.result)) c.args.edges.now c.loop-edge.edge-index (0, 0) c.loop-edge-test.true
    (λ z h. (omega (arith, h.0, c.greater.ensures.first, c.greater-greatest.ensures.first), omega (arith, h.1, c.greater.ensures.first, c.greater-greatest.ensures.first))) (omega (arith, c.greater.ensures.second, c.greater-greatest.ensures.first), c.greater-greatest.ensures.second) c.loop-edge.invariant

pub returns : goal.returns
returns c = record { greatest = all_end (λ e. (e.0 / c.args.width ≤ c.loop-edge.greatest) × (e.1 / c.args.width ≤ c.loop-edge.greatest)) c.args.edges.now c.loop-edge.edge-index c.loop-edge-test.false c.loop-edge.invariant }
