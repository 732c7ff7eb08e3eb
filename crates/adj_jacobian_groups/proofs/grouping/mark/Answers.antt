-- A column that has a group, and one that has none yet.
use Rattle.std.proofs.Common.{get_or, refl}
use Rattle.adj_jacobian_groups.proofs.Marking.{stamped_none, stamped_one}
use Rattle.adj_jacobian_groups.proofs.grouping.mark.Goals as goal
use Rattle.adj_jacobian_groups.proofs.grouping.mark.Goals.{then-column-groups, else-column-groups}

pub loop-column-preserved : goal.loop-column-preserved
loop-column-preserved c =
    let gs = c.args.groups.now in
    let cs = c.args.columns.now in
    let i = c.loop-column.column-index in
    let d = get_or cs i 0 in
    let was = c.loop-column.stamps in
    let now = c.if-column-groups.stamps in
    elim c.if-column-groups.branch [
      | then-column-groups w ↦ stamped_one gs cs i d c.args.stamp c.args.stamps.now was now c.loop-column-test.true refl c.loop-column.invariant w.if-column-groups.true c.loop-column.auto.stamps w.stamps-is
      | else-column-groups w ↦ stamped_none gs cs i d c.args.stamp c.args.stamps.now was now c.loop-column-test.true refl c.loop-column.invariant w.if-column-groups.false w.stamps-is
    ]
