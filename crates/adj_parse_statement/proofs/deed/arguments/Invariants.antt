use Rattle.std.proofs.Common.{◌≡◌, length, map}
use Rattle.adj_tree.specs.View.{term_of}
use Rattle.adj_parse_expression.specs.Front.{front_expression}
use Rattle.adj_parse_expression.specs.View.{seen}
use Rattle.adj_parse_statement.specs.Flaws.{with_part}
use Rattle.adj_parse_statement.specs.Fronts.{front_list}
use Rattle.adj_parse_statement.specs.Phrases.{members_behind}
use Rattle.adj_parse_statement.specs.LexemesView.{lexemes_in}
use Rattle.adj_parse_statement.proofs.deed.arguments.Given as goal

abbrev pub invariant-loop-behind : goal.invariant-loop-behind
invariant-loop-behind l = members_behind with_part (front_expression l.limit) (seen (λ v. map term_of v.items) l.all) (lexemes_in l.rest) ≡ front_list (front_expression l.limit) (lexemes_in l.fn.lexemes)

abbrev pub decreases-loop-behind : goal.decreases-loop-behind
decreases-loop-behind l = length (lexemes_in l.rest)
