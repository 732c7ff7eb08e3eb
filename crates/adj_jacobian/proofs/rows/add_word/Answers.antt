use Rattle.std.proofs.Common.{rules, ◌≡◌, ◌+◌, ◌++◌, ◌∷◌, [], ◌/◌, ◌^◌, bit_and, sym, ap, ◌∙◌, append_assoc, arith}
use Rattle.std.specs.Prelude.{◌==◌, if◌then◌else◌}
use Rattle.std.proofs.lemmas.List.{append-nil}
use Rattle.adj_jacobian.specs.Parts.{bits_from}
use Rattle.adj_jacobian.proofs.Ranges.{no_bits, bits_more}
use Rattle.adj_jacobian.proofs.rows.add_word.Goals as goal

pub returns-then-word-eq0 : goal.returns-then-word-eq0
returns-then-word-eq0 c =
    let none : c.args.word ≡ 0 = search rules in
    sym (append-nil c.args.columns.now) ∙ ap (λ zs. c.args.columns.now ++ zs) (sym (no_bits c.args.first c.args.count) ∙ ap (λ w. bits_from w c.args.first c.args.count) (sym none))

pub loop-i-preserved : goal.loop-i-preserved
loop-i-preserved c =
    let word = c.args.word in
    let first = c.args.first in
    let i = c.loop-i.i in
    let old = c.args.columns.now in
    let one = if bit_and (word / 2 ^ i) 1 == 1 then (first + i) ∷ [] else [] in
    c.in_ok-add_bit.ensures ∙ ap (λ zs. zs ++ one) c.loop-i.invariant ∙ append_assoc old (bits_from word first i) one ∙ ap (λ zs. old ++ zs) (sym (bits_more word first i))

pub returns : goal.returns
returns c =
    let test = c.loop-i-test.false in
    let past = c.loop-i.auto.i-end in
    let same : c.loop-i.i ≡ c.args.count = omega (arith, test, past) in
    c.loop-i.invariant ∙ ap (λ n. c.args.columns.now ++ bits_from c.args.word c.args.first n) same
