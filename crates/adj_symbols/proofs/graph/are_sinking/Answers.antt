use Rattle.std.proofs.Common.{arith}
use Rattle.adj_symbols.proofs.graph.are_sinking.Goals as goal

pub returns : goal.returns
returns c = λ t k d lt. c.loop-edge.invariant k d (omega (arith, c.loop-edge-test.false))
