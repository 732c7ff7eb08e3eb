use Rattle.std.proofs.Common.{◌≡◌, ◌∙◌, ◌-◌, length, min, sym, ap, arith}
use Rattle.std.proofs.lemmas.Bool.{eqb-true}
use Rattle.def_text.specs.Data.{text_len, data_line}
use Rattle.def_text.specs.Line.{cut_lines, is_data}
use Rattle.def_text.proofs.Dating.{begins_here, begins_later, number_here, number_later, number_ends}
use Rattle.adj_fixed.proofs.data.data_part.Goals as goal

pub returns-then-is_data : goal.returns-then-is_data
returns-then-is_data c =
    let cut = c.split_line.ensures.lines in
    let left = c.split_line.ensures.rest in
    let tested = ap is_data (sym c.without_cr.ensures) ∙ sym c.if-is_data.ensures in
    let place : length c.args.bytes.now - length c.split_line.result.1.now ≡ min (text_len (cut_lines c.args.bytes.now)) (length c.args.bytes.now) = omega (arith, begins_here _ _ _ cut left tested, c.loop-rest.invariant.1, c.loop-rest.invariant.2) in
    let number = c.next_number-number.ensures ∙ sym (number_here _ _ _ cut left c.loop-rest.number tested) ∙ c.loop-rest.invariant.0 in
    cc

pub loop-rest-preserved : goal.loop-rest-preserved
loop-rest-preserved c =
    let cut = c.split_line.ensures.lines in
    let left = c.split_line.ensures.rest in
    let tested = ap is_data (sym c.without_cr.ensures) ∙ sym c.if-is_data.ensures in (
      ap (λ n. data_line n (cut_lines c.split_line.result.1.now)) c.next_number-number.ensures ∙ sym (number_later _ _ _ cut left c.loop-rest.number tested) ∙ c.loop-rest.invariant.0,
      omega (arith, begins_later _ _ _ cut left tested, left, c.loop-rest.invariant.1, c.loop-rest.invariant.2),
      omega (arith, left, c.loop-rest.invariant.2),
    )

pub returns : goal.returns
returns c =
    let none = eqb-true (length c.loop-rest.rest.now) 0 (sym c.loop-rest-test.ensures) in
    let place : length c.args.bytes.now ≡ min (text_len (cut_lines c.args.bytes.now)) (length c.args.bytes.now) = omega (arith, none, c.loop-rest.invariant.1, c.loop-rest.invariant.2) in
    let number = sym (number_ends c.loop-rest.number c.loop-rest.rest.now none) ∙ c.loop-rest.invariant.0 in
    cc
