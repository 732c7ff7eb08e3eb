use Rattle.std.proofs.Common.{sym, ap, refl, subst, ◌∙◌}
use Rattle.std.proofs.lemmas.List.{nil_from_length}
use Rattle.def_text.specs.Machine.{Nothing, State, read}
use Rattle.def_text.specs.Lexeme.{lexemes_of, lexeme_of}
use Rattle.adj_parse_expression.specs.Partial.{Partial, algebra}
use Rattle.adj_parse_expression.specs.Stack.{frame_of, stack_of, seen_of, Steps}
use Rattle.adj_parse_expression.proofs.Runs.{read_more, read_ends, read_fails, read_whole, AreSlices-rest, ends_front, fails_front}
use Rattle.adj_parse_expression.proofs.StackLemmas.{stacked-nil}
use Rattle.adj_parse_expression.proofs.expressions.expression.Goals as goal

pub loop-token-init : goal.loop-token-init
loop-token-init c = (ap (λ frames. read (algebra c.args.limit) (frames, Nothing) (lexemes_of c.args.text.now c.args.tokens.now)) (ap stack_of c.new-frames.ensures.items ∙ stacked-nil frame_of _ refl), c.requires.slices)

pub loop-token-preserved : goal.loop-token-preserved
loop-token-preserved c =
    let text = c.args.text.now in
    let alg = algebra c.args.limit in
    let split = c.in-Some.ensures.cases.0 in
    let made = subst (Steps alg (stack_of c.loop-token.frames.items, seen_of c.loop-token.seen) (lexeme_of text c.in-Some.token.now) c.step.new.frames.items) c.in-On.is c.in_ok-next.ensures in
    (sym (read_more alg _ (lexeme_of text c.in-Some.token.now) (lexemes_of text c.in-Some.behind.now) _ (ap (lexemes_of text) split) _ made) ∙ c.loop-token.invariant.0, AreSlices-rest text _ _ _ split c.loop-token.invariant.1)

pub returns-then-is_stop-clause-front : goal.returns-then-is_stop-clause-front
returns-then-is_stop-clause-front c =
    let text = c.args.text.now in
    let alg = algebra c.args.limit in
    let w = lexeme_of text c.in-Some.token.now in
    let left : State Partial = (stack_of c.loop-token.frames.items, seen_of c.loop-token.seen) in
    let made = subst (Steps alg left w c.step.new.frames.items) c.in-Stuck.is c.in_ok-next.ensures in
    let ends = read_ends alg left w (lexemes_of text c.in-Some.behind.now) _ (ap (lexemes_of text) c.in-Some.ensures.cases.0) (stack_of c.step.new.frames.items, seen_of c.in-Stuck.last) made.0 made.1 (sym (c.if-is_stop.ensures _)) in
    ends_front c.args.limit text c.args.tokens.now c.loop-token.rest.now _ c.ended.result (sym c.loop-token.invariant.0 ∙ ends) c.ended.ensures.front

pub returns-in-Stuck-clause-front : goal.returns-in-Stuck-clause-front
returns-in-Stuck-clause-front c =
    let text = c.args.text.now in
    let alg = algebra c.args.limit in
    let w = lexeme_of text c.in-Some.token.now in
    let left : State Partial = (stack_of c.loop-token.frames.items, seen_of c.loop-token.seen) in
    let made = subst (Steps alg left w c.step.new.frames.items) c.in-Stuck.is c.in_ok-next.ensures in
    let fails = read_fails alg left w (lexemes_of text c.in-Some.behind.now) _ (ap (lexemes_of text) c.in-Some.ensures.cases.0) made.0 (sym (c.if-is_stop.ensures _)) in
    fails_front c.args.limit text c.args.tokens.now (sym c.loop-token.invariant.0 ∙ fails)

pub returns-clause-front : goal.returns-clause-front
returns-clause-front c =
    let text = c.args.text.now in
    let whole = read_whole (algebra c.args.limit) (stack_of c.loop-token.frames.items, seen_of c.loop-token.seen) (lexemes_of text c.loop-token.rest.now) (ap (lexemes_of text) (nil_from_length _ c.in_default.ensures.cases)) in
    ends_front c.args.limit text c.args.tokens.now c.loop-token.rest.now _ c.ended-2.result (sym c.loop-token.invariant.0 ∙ whole) c.ended-2.ensures.front
