use Rattle.std.proofs.Common.{◌≡◌, get_or, refl, sym, ◌∙◌, subst}
use Rattle.adj_jacobian_groups.specs.View.{columns_of_rows}
use Rattle.adj_jacobian_groups.specs.Listed.{list_at, any_in}
use Rattle.adj_jacobian_groups.proofs.Seen.{row_columns}
use Rattle.adj_jacobian_groups.proofs.Marking.{Stamped, stamped_row}
use Rattle.adj_jacobian_groups.proofs.grouping.mark_rows.Goals as goal

pub loop-number-preserved : goal.loop-number-preserved
loop-number-preserved c =
    let gs = c.args.groups.now in
    let rs = c.args.rows.now in
    let ns = c.args.numbers.now in
    let i = c.loop-number.number-index in
    let n = get_or ns i 0 in
    let was = c.loop-number.stamps in
    let row = c.index-rows-number.result in
    let e : c.as_slice.result.now ≡ list_at (columns_of_rows rs) n =
    c.as_slice.ensures.numbers ∙ sym (row_columns rs n row (c.requires.rows i 0 c.loop-number-test.true)) in
    stamped_row gs (columns_of_rows rs) ns i n c.args.stamp c.args.stamps.now was c.mark.new.stamps c.loop-number-test.true refl c.loop-number.auto.stamps c.loop-number.invariant
    (subst (λ z. Stamped (any_in gs z) c.args.stamp was c.mark.new.stamps) e c.mark.ensures.stamped)
