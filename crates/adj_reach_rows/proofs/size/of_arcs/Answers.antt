use Rattle.std.proofs.Common.{◌≤◌, arith}
use Rattle.std.specs.Prelude.{None}
use Rattle.adj_reach.proofs.Greatest.{all_more, all_end}
use Rattle.adj_reach_rows.proofs.size.of_arcs.Goals as goal

pub loop-arc-preserved : goal.loop-arc-preserved
loop-arc-preserved c =
    all_more (λ a. (a.from ≤ c.loop-arc.greatest) × (a.to ≤ c.loop-arc.greatest)) (λ a. (a.from ≤ c.greater-greatest.result) × (a.to ≤ c.greater-greatest.result)) c.args.arcs.now c.loop-arc.arc-index
    (record { from = 0; to = 0; kept = 0; left = None }) c.loop-arc-test.true
    (λ z h. (omega (arith, h.0, c.greater.ensures.first, c.greater-greatest.ensures.first), omega (arith, h.1, c.greater.ensures.first, c.greater-greatest.ensures.first))) (omega (arith, c.greater.ensures.second, c.greater-greatest.ensures.first), c.greater-greatest.ensures.second) c.loop-arc.invariant

pub returns : goal.returns
returns c = record { greatest = all_end (λ a. (a.from ≤ c.loop-arc.greatest) × (a.to ≤ c.loop-arc.greatest)) c.args.arcs.now c.loop-arc.arc-index c.loop-arc-test.false c.loop-arc.invariant }
