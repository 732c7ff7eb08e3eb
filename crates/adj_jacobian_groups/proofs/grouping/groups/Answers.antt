use Rattle.std.proofs.Common.{◌≡◌, ◌<◌, ◌+◌, length, get_or, take, drop, ◌++◌, ◌∷◌, [], sym, ap, ◌∙◌, subst, arith}
use Rattle.std.specs.Prelude.{All}
use Rattle.std.proofs.lemmas.List.{take_at}
use Rattle.def_jacobian.specs.Groups.{has, count_of}
use Rattle.adj_jacobian_groups.specs.View.{columns_of_rows}
use Rattle.adj_jacobian_groups.specs.Listed.{any_row_in, ListRows}
use Rattle.adj_jacobian_groups.proofs.Seen.{rows_counted}
use Rattle.adj_jacobian_groups.proofs.Listing.{numbers_below}
use Rattle.adj_jacobian_groups.proofs.Marking.{Stamped}
use Rattle.adj_jacobian_groups.proofs.Turns.{each_below, Grouped, IsFirstOther, Turn, grouped_next}
use Rattle.adj_jacobian_groups.proofs.grouping.groups.Goals as goal

pub mark_rows-requires-clause-within : goal.mark_rows-requires-clause-within
mark_rows-requires-clause-within c k d h =
    let inv = c.loop-column.invariant in
    let e = c.as_slice.ensures.value in
    let q : get_or c.loop-column.groups.items k d < count_of c.loop-column.groups.items = each_below c.loop-column.groups.items k d (omega (arith, h, ap length e)) in
    omega (arith, q, ap (λ z. get_or z k d) e, inv.counted, inv.few, inv.size, c.loop-column-test.true, ap length c.as_mut_slice.ensures.value)

pub mark_rows-requires-clause-rows : goal.mark_rows-requires-clause-rows
mark_rows-requires-clause-rows c k d h =
    let rows = c.as_slice-rows.result.now in
    let q = subst (λ z. All (λ r. r < length (columns_of_rows rows)) z) (sym c.at.ensures) (numbers_below (columns_of_rows rows) (length c.as_slice-columns.result.now) c.in_ok-lists.lists c.loop-column.column c.loop-column-test.true c.in_ok-lists.ensures) k d h in
    omega (arith, q, rows_counted rows)

pub loop-column-preserved : goal.loop-column-preserved
loop-column-preserved c =
    let rows = columns_of_rows c.args.pattern.now.rows in
    let n = length c.as_slice-columns.result.now in
    let column = c.loop-column.column in
    let groups = c.loop-column.groups.items in
    let stamps = c.loop-column.stamps.items in
    let numbers = c.at.result.now in
    let marked = c.mark_rows.new.stamps in
    let group = c.least_free-group.result in
    let lists : ListRows rows n c.in_ok-lists.lists = subst (λ z. ListRows (columns_of_rows z) n c.in_ok-lists.lists) c.as_slice-rows.ensures.members c.in_ok-lists.ensures in
    let kept : take c.loop-column.stamps.len (marked ++ drop (length marked) stamps) ≡ marked =
    take_at marked (drop (length marked) stamps) c.loop-column.stamps.len (c.mark_rows.ensures.count ∙ c.as_mut_slice.ensures.len) in
    let stamped =
    subst (λ z. Stamped (any_row_in groups rows numbers) (column + 1) z marked) c.as_mut_slice.ensures.value
    (subst (λ z. Stamped (any_row_in z rows numbers) (column + 1) c.as_mut_slice.result.now marked) c.as_slice.ensures.value
    (subst (λ z. Stamped (any_row_in c.as_slice.result.now (columns_of_rows z) numbers) (column + 1) c.as_mut_slice.result.now marked) c.as_slice-rows.ensures.members c.mark_rows.ensures.stamped)) in
    let first : IsFirstOther (take c.loop-column.count c.deref.result.now) (column + 1) group =
    record { within = c.least_free-group.ensures.within; taken = c.least_free-group.ensures.taken; free = c.least_free-group.ensures.free } in
    let turn : Turn rows n column groups stamps c.loop-column.count numbers marked group = record {
      so_far = c.loop-column.invariant;
      within = c.loop-column-test.true;
      listed = λ r. ap (λ z. has z r) c.at.ensures ∙ lists.exact column r c.loop-column-test.true;
      same = c.mark_rows.ensures.count ∙ ap length c.as_mut_slice.ensures.value;
      stamped = stamped;
      first = subst (λ z. IsFirstOther (take c.loop-column.count z) (column + 1) group) (c.deref.ensures.value ∙ kept) first;
    } in
    subst (λ z. Grouped rows n (column + 1) c.push.new.self.items z c.max-count.result) (sym kept)
    (subst (λ z. Grouped rows n (column + 1) z marked c.max-count.result) (sym c.in_ok-push.ensures.items)
    (subst (λ z. Grouped rows n (column + 1) (groups ++ group ∷ []) marked z) (sym c.max-count.ensures) (grouped_next turn)))
