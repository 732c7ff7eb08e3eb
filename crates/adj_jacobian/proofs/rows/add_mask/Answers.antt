use Rattle.std.proofs.Common.{rules, ◌≡◌, ◌-◌, ◌*◌, ◌++◌, ◌<◌, ◌≤◌, min, ap, ◌∙◌, append_assoc, arith}
use Rattle.adj_jacobian.specs.Parts.{columns_from, width_of}
use Rattle.adj_jacobian.proofs.Ranges.{word_part, columns_more}
use Rattle.adj_jacobian.proofs.rows.add_mask.Goals as goal

pub loop-w-preserved : goal.loop-w-preserved
loop-w-preserved c =
    let k = c.args.block in
    let total = c.args.total in
    let mask = c.args.mask in
    let first = c.loop-w.first in
    let w = c.loop-w.w in
    let old = c.args.columns.now in
    let within = c.requires in
    let test = c.loop-w-test.true in
    let stands = c.loop-w.invariant.stands in
    let count : c.min-count.result ≡ min (total - first) 64 = search rules in
    let lt : w < 4 = omega (arith, test) in
    let from_start : 256 * k ≤ first = omega (arith, stands) in
    record {
      stands = omega (arith, within, stands, count, lt);
      so_far =
          c.in_ok-add_word.ensures ∙ (λ i. c.loop-w.invariant.so_far i ++ word_part k total w mask first c.min-count.result stands count lt i)
          ∙ append_assoc old (columns_from k mask (256 * k) (first - 256 * k)) (columns_from k mask first c.min-count.result)
          ∙ ap (λ zs. old ++ zs) (columns_more k mask (256 * k) first c.min-count.result from_start);
    }

pub returns : goal.returns
returns c =
    let k = c.args.block in
    let total = c.args.total in
    let within = c.requires in
    let test = c.loop-w-test.false in
    let past = c.loop-w.auto.w-end in
    let stands = c.loop-w.invariant.stands in
    let wide : c.loop-w.first - 256 * k ≡ width_of k total = omega (arith, within, test, past, stands) in
    c.loop-w.invariant.so_far ∙ ap (λ n. c.args.columns.now ++ columns_from k c.args.mask (256 * k) n) wide
