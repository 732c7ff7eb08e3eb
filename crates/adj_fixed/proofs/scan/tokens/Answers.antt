use Rattle.std.proofs.Common.{ℕ, ◌+◌, ◌-◌, ◌∙◌, length, drop, sym, ap, arith}
use Rattle.std.proofs.lemmas.List.{take_rest, length-take, length-drop}
use Rattle.def_text.specs.declared.token.TokenKind.{TokenKind}
use Rattle.def_text.specs.Token.{token_here}
use Rattle.def_text.proofs.Scanning.{scan_goes_on, scan_stops, scan_ends}
use Rattle.adj_fixed.proofs.scan.tokens.Goals as goal

pub returns-in_default : goal.returns-in_default
returns-in_default c =
    let part = c.args.part.now in
    let done = c.loop-done.done in
    sym (scan_stops c.args.call c.args.from part c.loop-done.tokens.items done _ c.loop-done.invariant.1 c.loop-done-test.true (sym (c.in_default.ensures.value ∙ ap (token_here c.args.call (c.args.from + done)) (take_rest part done))))

pub loop-done-preserved : goal.loop-done-preserved
loop-done-preserved c =
    let part = c.args.part.now in
    let done = c.loop-done.done in
    let t : TokenKind × ℕ = (c.in-Some.kind, c.in-Some.len) in
    let within = c.in-Some.ensures.within in
    (omega (arith, within.1, length-take (length part - done) (drop done part), length-drop done part), rw c.in_ok-push.ensures.items (scan_goes_on c.args.call c.args.from part c.loop-done.tokens.items done _ c.loop-done.invariant.1 c.loop-done-test.true t (sym (c.in-Some.ensures.value ∙ ap (token_here c.args.call (c.args.from + done)) (take_rest part done))) within.0))

pub returns : goal.returns
returns c = sym (scan_ends c.args.call c.args.from c.args.part.now c.loop-done.tokens.items c.loop-done.done _ c.loop-done.invariant.1 c.loop-done-test.false)
