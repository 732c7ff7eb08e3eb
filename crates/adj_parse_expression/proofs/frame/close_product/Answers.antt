-- The newest frame is closed, or left open.
use Rattle.std.proofs.Common.{sym, ◌∙◌}
use Rattle.adj_parse_expression.specs.Partial.{algebra}
use Rattle.adj_parse_expression.proofs.Bound.{product-closes, product-stays}
use Rattle.adj_parse_expression.proofs.frame.close_product.Goals as goal

pub loop-frame-preserved : goal.loop-frame-preserved
loop-frame-preserved c = product-closes (algebra c.args.limit) _ _ c.in-Some.frame _ _ c.in-Some.ensures.items (sym c.is_tight.ensures ∙ c.if-not-is_tight.false) c.in_ok-operand.ensures ∙ c.loop-frame.invariant

pub returns-then-not-is_tight : goal.returns-then-not-is_tight
returns-then-not-is_tight c = product-stays (algebra c.args.limit) _ _ c.in-Some.frame _ _ c.in-Some.ensures.items c.in_ok-push.ensures.items (sym c.is_tight.ensures ∙ c.if-not-is_tight.true) ∙ c.loop-frame.invariant
