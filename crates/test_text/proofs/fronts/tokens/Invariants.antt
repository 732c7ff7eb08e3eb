use Rattle.std.proofs.Common.{◌≤◌}
use Rattle.adj_parse_expression.specs.Front.{AreSlices}
use Rattle.test_text.proofs.fronts.tokens.Given as goal

abbrev pub invariant-loop-end : goal.invariant-loop-end
invariant-loop-end l = (l.start ≤ l.end) × AreSlices l.text l.tokens.items
