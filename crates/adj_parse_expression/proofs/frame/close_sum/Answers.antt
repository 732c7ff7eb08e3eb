-- The newest frame is closed, or left open.
use Rattle.std.proofs.Common.{sym, ◌∙◌}
use Rattle.adj_parse_expression.specs.Partial.{algebra}
use Rattle.adj_parse_expression.proofs.Bound.{sum-closes, sum-stays}
use Rattle.adj_parse_expression.proofs.frame.close_sum.Goals as goal

pub loop-frame-preserved : goal.loop-frame-preserved
loop-frame-preserved c = sum-closes (algebra c.args.limit) _ _ c.in-Some.frame _ _ c.in-Some.ensures.items (sym c.is_open.ensures ∙ c.if-is_open.false) c.in_ok-operand.ensures ∙ c.loop-frame.invariant

pub returns-then-is_open : goal.returns-then-is_open
returns-then-is_open c = sum-stays (algebra c.args.limit) _ _ c.in-Some.frame _ _ c.in-Some.ensures.items c.in_ok-push.ensures.items (sym c.is_open.ensures ∙ c.if-is_open.true) ∙ c.loop-frame.invariant
