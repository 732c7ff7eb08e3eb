-- The reading goes on as from the start, over the tokens that are left.
use Rattle.std.proofs.Common.{◌≡◌, [], length}
use Rattle.def_text.specs.Lexeme.{lexemes_of}
use Rattle.adj_parse_expression.specs.ConditionMachine.{beginning, read_test}
use Rattle.adj_parse_expression.specs.Front.{AreSlices}
use Rattle.adj_parse_expression.specs.PartialCondition.{test_algebra}
use Rattle.adj_parse_expression.specs.Waits.{waits_of, inside_of}
use Rattle.adj_parse_expression.proofs.conditions.read.Given as goal

abbrev pub invariant-loop-token : goal.invariant-loop-token
invariant-loop-token l = record {
  so_far : read_test (test_algebra l.limit) (waits_of l.waits.items, inside_of l.inside) (lexemes_of l.text l.rest) ≡ read_test (test_algebra l.limit) (beginning []) (lexemes_of l.text l.tokens);
  slices : AreSlices l.text l.rest;
}

abbrev pub decreases-loop-token : goal.decreases-loop-token
decreases-loop-token l = length l.rest
