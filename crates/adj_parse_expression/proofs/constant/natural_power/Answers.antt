use Rattle.std.proofs.Common.{◌≡◌, w64, to_z, of_z, sym, ap, ◌∙◌}
use Rattle.std.specs.Int.{int_pow}
use Rattle.std.proofs.lemmas.Int.{to_z-of_z}
use Rattle.def_text.specs.Grammar.{in_words}
use Rattle.adj_parse_expression.proofs.Powers.{to_power-int_pow, small_power, in_words-checked}
use Rattle.adj_parse_expression.proofs.constant.natural_power.Goals as goal

pub returns : goal.returns
returns c =
    let z = c.args.base in
    let k = c.args.exponent in
    let p = int_pow (to_z w64 (of_z w64 z)) c.min.result in
    let found : c.checked_pow.result ≡ in_words p = in_words-checked c.checked_pow.result p c.checked_pow.ensures in
    found ∙ ap (λ b. in_words (int_pow b c.min.result)) (to_z-of_z w64 z c.ranges.base) ∙ ap (λ n. in_words (int_pow z n)) c.min.ensures ∙ small_power z k ∙ ap in_words (sym (to_power-int_pow z k))
