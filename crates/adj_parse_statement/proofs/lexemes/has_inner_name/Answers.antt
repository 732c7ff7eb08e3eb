use Rattle.std.proofs.Common.{sym, ◌∙◌}
use Rattle.adj_parse_statement.proofs.Inner.{names_end, name_here, name_later}
use Rattle.adj_parse_statement.proofs.lexemes.has_inner_name.Goals as goal

pub returns-then-is_inner_name : goal.returns-then-is_inner_name
returns-then-is_inner_name c = name_here c.loop-token.inside c.loop-token.token-index c.args.tokens.now _ c.loop-token.invariant _ c.loop-token-test.true (sym c.is_inner_name.ensures ∙ c.if-is_inner_name.true)

pub loop-token-preserved : goal.loop-token-preserved
loop-token-preserved c = name_later c.loop-token.inside c.loop-token.token-index c.args.tokens.now _ c.loop-token.invariant _ c.loop-token-test.true c.inside_behind-inside.result (sym c.is_inner_name.ensures ∙ c.if-is_inner_name.false) c.inside_behind-inside.ensures

pub returns : goal.returns
returns c = names_end c.loop-token.inside c.loop-token.token-index c.args.tokens.now _ c.loop-token.invariant c.loop-token-test.false
