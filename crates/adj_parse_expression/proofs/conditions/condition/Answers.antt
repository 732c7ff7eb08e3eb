-- What the machine reads is what stands there, judged.
use Rattle.std.proofs.Common.{ap, ◌∙◌}
use Rattle.std.specs.Prelude.{option_map}
use Rattle.def_text.specs.Lexeme.{lexemes_of}
use Rattle.adj_parse_expression.proofs.ConditionExact.{found_of, front_read}
use Rattle.adj_parse_expression.proofs.conditions.condition.Goals as goal

pub returns-in-Some-clause-front : goal.returns-in-Some-clause-front
returns-in-Some-clause-front c =
    let front = rw c.in-Some.is at c.in_ok-made.ensures.front in
    rw c.into_found.ensures (ap (option_map found_of) front ∙ front_read c.args.limit (lexemes_of c.args.text.now c.args.tokens.now))

pub returns-in-None-clause-front : goal.returns-in-None-clause-front
returns-in-None-clause-front c =
    let front = rw c.in-None.is at c.in_ok-made.ensures.front in
    ap (option_map found_of) front ∙ front_read c.args.limit (lexemes_of c.args.text.now c.args.tokens.now)
