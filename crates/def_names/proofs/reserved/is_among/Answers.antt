use Rattle.std.proofs.Common.{ap, sym, ◌∙◌, drop, ◌+◌}
use Rattle.std.specs.Prelude.{◌||◌}
use Rattle.def_meaning.specs.Apart.{has_name}
use Rattle.def_names.proofs.Lists.{has_first, texts_of}
use Rattle.def_names.proofs.reserved.is_among.Goals as goal

pub returns-then-eq : goal.returns-then-eq
returns-then-eq c =
    let x = c.args.name.now in
    let ks = c.args.texts.now in
    let i = c.loop-text.text-index in
    sym (sym c.loop-text.invariant ∙ has_first x c.bytes.result.now ks i _ c.eq.result c.bytes.ensures.bytes c.loop-text-test.true c.eq.ensures ∙ ap (λ b. b || has_name x (texts_of (drop (i + 1) ks))) c.if-eq.true)

pub loop-text-preserved : goal.loop-text-preserved
loop-text-preserved c =
    let x = c.args.name.now in
    let ks = c.args.texts.now in
    let i = c.loop-text.text-index in
    sym (sym c.loop-text.invariant ∙ has_first x c.bytes.result.now ks i _ c.eq.result c.bytes.ensures.bytes c.loop-text-test.true c.eq.ensures ∙ ap (λ b. b || has_name x (texts_of (drop (i + 1) ks))) c.if-eq.false)
