use Rattle.std.proofs.Common.{◌≡◌, false, drop}
use Rattle.adj_parse_statement.specs.Phrases.{has_inner_name}
use Rattle.adj_parse_statement.proofs.Inner.{kinds}
use Rattle.adj_parse_statement.proofs.lexemes.has_inner_name.Given as goal

abbrev pub invariant-loop-token : goal.invariant-loop-token
invariant-loop-token l = has_inner_name l.inside (kinds (drop l.token-index l.tokens)) ≡ has_inner_name false (kinds l.tokens)
