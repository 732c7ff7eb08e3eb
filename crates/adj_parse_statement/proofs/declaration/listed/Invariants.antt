use Rattle.std.proofs.Common.{◌≡◌, length, map}
use Rattle.adj_parse_expression.specs.View.{seen}
use Rattle.adj_parse_statement.specs.Flaws.{with_part}
use Rattle.adj_parse_statement.specs.Fronts.{front_list, front_item}
use Rattle.adj_parse_statement.specs.Phrases.{members_behind}
use Rattle.adj_parse_statement.specs.View.{item_of}
use Rattle.adj_parse_statement.specs.LexemesView.{lexemes_in}
use Rattle.adj_parse_statement.proofs.declaration.listed.Given as goal

abbrev pub invariant-loop-behind : goal.invariant-loop-behind
invariant-loop-behind l = members_behind with_part front_item (seen (λ v. map item_of v.items) l.items) (lexemes_in l.rest) ≡ front_list front_item (lexemes_in l.fn.lexemes)

abbrev pub decreases-loop-behind : goal.decreases-loop-behind
decreases-loop-behind l = length (lexemes_in l.rest)
