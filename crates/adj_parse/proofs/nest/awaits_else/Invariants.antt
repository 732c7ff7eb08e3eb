use Rattle.std.proofs.Common.{◌≡◌, length}
use Rattle.adj_parse.specs.Order.{awaits_else}
use Rattle.adj_parse.specs.NestView.{blocks_of}
use Rattle.adj_parse.proofs.nest.awaits_else.Given as goal

abbrev pub invariant-loop-block : goal.invariant-loop-block
invariant-loop-block l = awaits_else (blocks_of l.outer) ≡ awaits_else (blocks_of l.blocks)

abbrev pub decreases-loop-block : goal.decreases-loop-block
decreases-loop-block l = length l.outer
