use Rattle.adj_reach.specs.Edges.{AreBelow}
use Rattle.test_foundations.proofs.reaching.chain_backwards.Given as goal

abbrev pub invariant-loop-i : goal.invariant-loop-i
invariant-loop-i l = AreBelow l.nodes l.edges.items
