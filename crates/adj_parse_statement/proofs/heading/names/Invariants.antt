use Rattle.std.proofs.Common.{◌≡◌, length}
use Rattle.adj_parse_statement.specs.Phrases.{name_at, with_last, members_behind, read_names}
use Rattle.adj_parse_statement.specs.LexemesView.{lexemes_in}
use Rattle.adj_parse_statement.proofs.heading.names.Given as goal

abbrev pub invariant-loop-behind : goal.invariant-loop-behind
invariant-loop-behind l = members_behind with_last name_at l.names.items (lexemes_in l.rest) ≡ read_names (lexemes_in l.fn.lexemes)

abbrev pub decreases-loop-behind : goal.decreases-loop-behind
decreases-loop-behind l = length (lexemes_in l.rest)
