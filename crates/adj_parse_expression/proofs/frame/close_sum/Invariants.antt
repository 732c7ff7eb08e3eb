use Rattle.std.proofs.Common.{◌≡◌, vec_len}
use Rattle.def_text.specs.Machine.{close_sum}
use Rattle.adj_parse_expression.specs.Partial.{algebra, operand_of}
use Rattle.adj_parse_expression.specs.Stack.{stack_of}
use Rattle.adj_parse_expression.proofs.frame.close_sum.Given as goal

abbrev pub invariant-loop-frame : goal.invariant-loop-frame
invariant-loop-frame l = close_sum (algebra l.limit) (stack_of l.frames.items) (operand_of l.operand) ≡ close_sum (algebra l.limit) (stack_of l.fn.frames.items) (operand_of l.fn.operand)

abbrev pub decreases-loop-frame : goal.decreases-loop-frame
decreases-loop-frame l = vec_len l.frames
