use Rattle.std.proofs.Common.{◌<◌, length, get_or, refl, ap, ◌∙◌, ◌∷◌, ◌++◌, [], arith, length-set}
use Rattle.adj_jacobian_groups.specs.Listed.{list_at}
use Rattle.adj_jacobian_groups.proofs.Listing.{column_more}
use Rattle.adj_jacobian_groups.proofs.lists.add_row.Goals as goal

pub loop-column-preserved : goal.loop-column-preserved
loop-column-preserved c =
    let columns = c.args.columns.now in
    let i = c.loop-column.column-index in
    let d = get_or columns i 0 in
    let was = c.loop-column.lists in
    let h : get_or c.args.columns.now c.loop-column.column-index 0 < length c.args.lists.now = c.requires i 0 c.loop-column-test.true in
    let l : get_or c.args.columns.now c.loop-column.column-index 0 < length c.loop-column.lists = omega (arith, h, c.loop-column.invariant.count) in
    record {
      count = ap length c.in_ok-add.ensures ∙ length-set was d (list_at was d ++ c.args.row ∷ []) ∙ c.loop-column.invariant.count;
      added = column_more c.args.lists.now was c.add.new.self columns i c.args.row d c.loop-column-test.true refl l c.in_ok-add.ensures c.loop-column.invariant.added;
    }
