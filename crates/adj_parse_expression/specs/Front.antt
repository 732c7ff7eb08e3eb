-- Front: what stands at the front of some lexemes, judged, and what stands behind it.
use Rattle.std.specs.Prelude.{ℕ, ◌≤◌, List, length, Option, option_map, Result}
use Rattle.std.specs.List.{All}
use Rattle.adj_tree.specs.Code.{Term, Test}
use Rattle.def_text.specs.Lexeme.{Lexeme}
use Rattle.def_text.specs.declared.token.Token.{Token}
use Rattle.adj_parse_expression.specs.declared.flaw.Flaw.{Flaw}
use Rattle.adj_parse_expression.specs.Judged.{judged, judged_test}
use Rattle.adj_parse_expression.specs.Reading.{read_expression, read_condition}

-- each token has its characters in the text
abbrev pub AreSlices : List ℕ → List Token → Type 0
AreSlices text tokens = All (λ (t : Token). (t.start ≤ t.end) × (t.end ≤ length text)) tokens

abbrev pub front_expression : ℕ → List Lexeme → Option (Result Term Flaw × List Lexeme)
front_expression limit lexemes = option_map (λ f. (judged limit f.0, f.1)) (read_expression lexemes)

abbrev pub front_condition : ℕ → List Lexeme → Option (Result Test Flaw × List Lexeme)
front_condition limit lexemes = option_map (λ f. (judged_test limit f.0, f.1)) (read_condition lexemes)
