use Rattle.std.proofs.Common.{take, subst, arith}
use Rattle.std.proofs.lemmas.List.{take_all}
use Rattle.adj_reach_rows.specs.Searches.{Grown}
use Rattle.adj_reach_rows.proofs.Growing.{grown_not}
use Rattle.adj_reach_rows.proofs.Following.{IsPassed, nodes_more}
use Rattle.adj_reach_rows.proofs.search.Search.mark_nodes.Goals as goal

pub loop-node-init : goal.loop-node-init
loop-node-init c = grown_not (IsPassed c.args.width c.args.self.now.words (take 0 c.args.nodes.now)) c.args.self.now c.requires.fits (λ n e. absurd (omega (arith, e.1.1)))

pub mark_node-requires-clause-fits : goal.mark_node-requires-clause-fits
mark_node-requires-clause-fits c = c.loop-node.invariant.fits

pub mark_node-requires-clause-wide : goal.mark_node-requires-clause-wide
mark_node-requires-clause-wide c = let e = c.loop-node.invariant.words in omega (arith, e, c.requires.wide)

pub mark_node-requires-clause-node : goal.mark_node-requires-clause-node
mark_node-requires-clause-node c = omega (arith, c.requires.nodes c.loop-node.node-index 0 c.loop-node-test.true, c.loop-node.invariant.rows)

pub loop-node-preserved : goal.loop-node-preserved
loop-node-preserved c = nodes_more c.args.width c.args.nodes.now c.loop-node.node-index c.args.self.now c.loop-node.self c.mark_node.new.self c.loop-node-test.true c.loop-node.invariant c.in_ok-mark_node.ensures.grown

pub returns : goal.returns
returns c = record { grown = subst (λ z. Grown (IsPassed c.args.width c.args.self.now.words z) c.args.self.now c.loop-node.self) (take_all c.loop-node.node-index c.args.nodes.now c.loop-node-test.false) c.loop-node.invariant }
