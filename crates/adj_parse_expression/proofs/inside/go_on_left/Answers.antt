-- The lexeme is one behind the left operand.
use Rattle.adj_parse_expression.specs.Stack.{stack_of, seen_of}
use Rattle.adj_parse_expression.specs.Waits.{reading_of}
use Rattle.adj_parse_expression.proofs.ConditionSteps.{left_ends}
use Rattle.adj_parse_expression.proofs.inside.go_on_left.Goals as goal

pub returns-in-Some : goal.returns-in-Some
returns-in-Some c =
    let stuck = rw c.in-Stuck.is at c.in_ok-seen.ensures in
    left_ends c.args.limit _ _ (reading_of c.args.left) (stack_of c.step.new.frames.items, seen_of c.in-Stuck.seen) c.args.kind c.args.text.now _ _ stuck.0 stuck.1 (rw c.in-Some.is at c.in_ok-operand-in-Stuck.ensures) c.behind_left.ensures
