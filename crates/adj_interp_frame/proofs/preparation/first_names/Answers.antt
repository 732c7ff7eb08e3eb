use Rattle.std.proofs.Common.{[], sym, ◌∙◌, arith}
use Rattle.std.proofs.lemmas.List.{get_or_default}
use Rattle.adj_interp_frame.proofs.Listing.{next_count, next_first}
use Rattle.adj_interp_frame.proofs.Declarations.{alike_names}
use Rattle.adj_interp_frame.proofs.preparation.first_names.Goals as goal

pub loop-dummy-preserved : goal.loop-dummy-preserved
loop-dummy-preserved c =
    let inv = c.loop-dummy.invariant in
    let k = c.loop-dummy.dummy-index in
    let x = c.dummy-item.result in
    let all = c.args.dummies.now in
    let n = c.in_ok-_number.ensures in
    let lt = c.loop-dummy-test.true in
    let at = get_or_default all k [] x lt ∙ sym c.dummy-item.is in
    record {
      apart = n.apart inv.apart;
      count = next_count all c.loop-dummy.names c.number.new.self k c.in_ok-_number._number x c.requires lt at inv.count inv.first n.extends n.within n.named n.few;
      first = next_first all c.loop-dummy.names c.number.new.self k c.in_ok-_number._number x c.requires lt at inv.count inv.first n.extends n.within n.named n.few;
    }

pub returns : goal.returns
returns c =
    let inv = c.loop-dummy.invariant in
    let count = inv.count in
    let past = c.loop-dummy-test.false in
    let over = c.loop-dummy.auto.dummy-index-end in
    alike_names c.loop-dummy.names c.args.dummies.now (omega (arith, count, past, over)) (λ i l. inv.first i (omega (arith, l, past)))
