use Rattle.def_text.specs.Machine.{end_group, next_argument}
use Rattle.adj_parse_expression.specs.Partial.{algebra, operand_of}
use Rattle.adj_parse_expression.specs.Stack.{stack_of}
use Rattle.adj_parse_expression.proofs.Closing.{behind_sum}
use Rattle.adj_parse_expression.proofs.machine.go_on.Goals as goal

pub returns-in_ok-sum-in-Right : goal.returns-in_ok-sum-in-Right
returns-in_ok-sum-in-Right c =
    let alg = algebra c.args.limit in
    rw c.in-Right.is (behind_sum alg (end_group alg) (stack_of c.args.frames.now.items) (operand_of c.args.operand) _ _ c.end_group.result c.in_ok-sum-in-Right.ensures c.end_group.ensures)

pub returns-in_ok-sum-in-Comma : goal.returns-in_ok-sum-in-Comma
returns-in_ok-sum-in-Comma c =
    let alg = algebra c.args.limit in
    rw c.in-Comma.is (behind_sum alg next_argument (stack_of c.args.frames.now.items) (operand_of c.args.operand) _ _ c.next_argument.result c.in_ok-sum-in-Comma.ensures c.next_argument.ensures)
