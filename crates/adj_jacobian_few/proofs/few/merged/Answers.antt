use Rattle.std.proofs.Common.{◌≡◌, ◌+◌, ◌<◌, sym, subst, slice_set, arith}
use Rattle.std.specs.Prelude.{Some}
use Rattle.adj_jacobian_few.specs.declared.few.Kept.TheVariants.{Listed}
use Rattle.adj_jacobian_few.specs.Merged.{merged, least}
use Rattle.adj_jacobian_few.specs.Few.{sized}
use Rattle.adj_jacobian_few.proofs.Sizing.{Stand, next_place, more_than_six, six_or_fewer}
use Rattle.adj_jacobian_few.proofs.few.merged.Goals as goal

pub loop-count-preserved : goal.loop-count-preserved
loop-count-preserved c =
    let count = c.loop-count.count in
    let z = c.in-Some.number in
    let whole = merged c.args.first.now c.args.second.now in
    let test = c.loop-count-test.true in
    let lt : count < 6 = omega (arith, test) in
    let found : least c.loop-count.left.now c.loop-count.right.now ≡ Some z = sym c.in-Some.ensures in
    subst (λ z. z) (λ i. Stand (slice_set c.loop-count.numbers count z) (count + 1) (sym c.behind-left.ensures i) (sym c.behind-right.ensures i) whole)
    (next_place c.loop-count.numbers c.loop-count.left.now c.loop-count.right.now whole count z c.loop-count.invariant lt found)

pub returns-in-None : goal.returns-in-None
returns-in-None c =
    let whole = merged c.args.first.now c.args.second.now in
    let test = c.loop-count-test.true in
    six_or_fewer c.loop-count.numbers c.loop-count.left.now c.loop-count.right.now whole c.loop-count.count c.loop-count.invariant (omega (arith, test)) (sym c.in-None.ensures)

pub returns-in-Some-least : goal.returns-in-Some-least
returns-in-Some-least c =
    let whole = merged c.args.first.now c.args.second.now in
    let test = c.loop-count-test.false in
    let past = c.loop-count.auto.count-end in
    more_than_six c.loop-count.numbers c.loop-count.left.now c.loop-count.right.now whole c.loop-count.count c.in-Some-least._number c.loop-count.invariant (omega (arith, test, past)) (sym c.in-Some-least.ensures)

pub returns-in-None-least : goal.returns-in-None-least
returns-in-None-least c =
    let whole = merged c.args.first.now c.args.second.now in
    let test = c.loop-count-test.false in
    let past = c.loop-count.auto.count-end in
    let full : c.loop-count.count ≡ 6 = omega (arith, test, past) in
    subst (λ n. Listed n c.loop-count.numbers ≡ sized whole) full
    (six_or_fewer c.loop-count.numbers c.loop-count.left.now c.loop-count.right.now whole c.loop-count.count c.loop-count.invariant past (sym c.in-None-least.ensures))
