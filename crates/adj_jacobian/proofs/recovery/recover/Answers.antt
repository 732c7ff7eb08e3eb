use Rattle.std.proofs.Common.{◌<◌, ◌≤◌, map, length, ap, ◌∙◌, arith}
use Rattle.def_jacobian.specs.Recovered.{entries, entries_of_row, found}
use Rattle.adj_jacobian_groups.specs.View.{place_of, rows_of}
use Rattle.adj_jacobian.specs.Products.{entry_of, tangent_in}
use Rattle.adj_jacobian.proofs.Walking.{nothing_left}
use Rattle.adj_jacobian.proofs.Entering.{row_turn, no_row, some_more}
use Rattle.adj_jacobian.proofs.recovery.recover.Goals as goal

pub loop-i-preserved : goal.loop-i-preserved
loop-i-preserved c =
    let rs = c.as_slice-rows.result.now in
    let i = c.loop-i.i in
    let value = found c.as_slice-groups.result.now (tangent_in c.args.products.now) in
    let r = c.index-rows-i.result in
    let lt : i < length rs = (let test = c.loop-i-test.true in omega (arith, test)) in
    some_more (map entry_of c.add_row.new.all.items) (map entry_of c.loop-i.all.items) (entries_of_row value i (place_of r.at) r.columns) _ _ _
    c.in_ok-add_row.ensures (row_turn value rs i r lt c.index-rows-i.is) c.loop-i.invariant

pub returns : goal.returns
returns c =
    let rs = c.as_slice-rows.result.now in
    let i = c.loop-i.i in
    let value = found c.as_slice-groups.result.now (tangent_in c.args.products.now) in
    let past : length rs ≤ i = (let test = c.loop-i-test.false in omega (arith, test)) in
    ap (map entry_of) c.new.ensures.members ∙ nothing_left (map entry_of c.loop-i.all.items) _ _ (no_row value rs i past) c.loop-i.invariant
    ∙ (λ k. entries (found (c.as_slice-groups.ensures.members k) (tangent_in c.args.products.now)) (rows_of (c.as_slice-rows.ensures.members k)) 0)
