use Rattle.std.proofs.Common.{sym, ap, ◌∙◌, subst, arith}
use Rattle.std.proofs.lemmas.List.{take_all}
use Rattle.adj_jacobian_groups.specs.View.{columns_of_rows}
use Rattle.adj_jacobian_groups.specs.Listed.{ListRows}
use Rattle.adj_jacobian_groups.proofs.Seen.{row_columns, rows_counted}
use Rattle.adj_jacobian_groups.proofs.Listing.{row_listed}
use Rattle.adj_jacobian_groups.proofs.lists.rows_of_columns.Goals as goal

pub loop-number-preserved : goal.loop-number-preserved
loop-number-preserved c =
    let rs = c.args.rows.now in
    let i = c.loop-number.number in
    let r = c.index-rows-number.result in
    row_listed (columns_of_rows rs) c.args.columns i c.loop-number.lists c.add_row.new.lists c.as_slice.result.now
    (omega (arith, c.loop-number-test.true, rows_counted rs))
    (c.as_slice.ensures.numbers ∙ ap (λ z. z.columns) c.index-rows-number.is ∙ sym (row_columns rs i r c.loop-number-test.true))
    c.loop-number.invariant c.in_ok-add_row.ensures.count c.in_ok-add_row.ensures.added

pub returns : goal.returns
returns c =
    let rs = c.args.rows.now in
    subst (λ z. ListRows z c.args.columns c.loop-number.lists) (take_all c.loop-number.number (columns_of_rows rs) (omega (arith, c.loop-number-test.false, rows_counted rs))) c.loop-number.invariant
