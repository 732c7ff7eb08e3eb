-- The lexeme is one behind the comparison.
use Rattle.adj_parse_expression.specs.Stack.{stack_of, seen_of}
use Rattle.adj_parse_expression.specs.Waits.{reading_of}
use Rattle.adj_parse_expression.proofs.ConditionSteps.{right_ends}
use Rattle.adj_parse_expression.proofs.inside.go_on_right.Goals as goal

pub returns-in_ok-made-in-Some : goal.returns-in_ok-made-in-Some
returns-in_ok-made-in-Some c =
    let stuck = rw c.in-Stuck.is at c.in_ok-seen.ensures in
    right_ends c.args.limit _ _ _ _ (reading_of c.args.comparison.right) (stack_of c.step.new.frames.items, seen_of c.in-Stuck.seen) c.args.kind c.args.text.now _ _ _ stuck.0 stuck.1 (rw c.in-Some.is at c.in_ok-operand-in-Stuck.ensures) c.in_ok-made-in-Some.ensures c.behind_condition.ensures
