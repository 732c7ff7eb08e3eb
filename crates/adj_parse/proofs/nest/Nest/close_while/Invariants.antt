use Rattle.std.proofs.Common.{◌≡◌, length}
use Rattle.adj_parse.specs.Blocks.{close_while}
use Rattle.adj_parse.specs.NestView.{is_shape, nest_of}
use Rattle.adj_parse.proofs.nest.Nest.close_while.Given as goal

abbrev pub invariant-loop-alloc : goal.invariant-loop-alloc
invariant-loop-alloc l = close_while (is_shape l.shape) (nest_of l.self).blocks (nest_of l.self).acts ≡ close_while (is_shape l.shape) (nest_of l.initial.self).blocks (nest_of l.initial.self).acts

abbrev pub decreases-loop-alloc : goal.decreases-loop-alloc
decreases-loop-alloc l = length l.self.blocks.items
