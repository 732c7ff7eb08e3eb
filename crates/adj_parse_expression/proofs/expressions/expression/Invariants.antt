use Rattle.std.proofs.Common.{◌≡◌, [], length}
use Rattle.def_text.specs.Machine.{wanting, read}
use Rattle.def_text.specs.Lexeme.{lexemes_of}
use Rattle.adj_parse_expression.specs.Front.{AreSlices}
use Rattle.adj_parse_expression.specs.Partial.{algebra}
use Rattle.adj_parse_expression.specs.Stack.{stack_of, seen_of}
use Rattle.adj_parse_expression.proofs.expressions.expression.Given as goal

abbrev pub invariant-loop-token : goal.invariant-loop-token
invariant-loop-token l = (read (algebra l.limit) (stack_of l.frames.items, seen_of l.seen) (lexemes_of l.text l.rest) ≡ read (algebra l.limit) (wanting []) (lexemes_of l.text l.tokens)) × AreSlices l.text l.rest

abbrev pub decreases-loop-token : goal.decreases-loop-token
decreases-loop-token l = length l.rest
