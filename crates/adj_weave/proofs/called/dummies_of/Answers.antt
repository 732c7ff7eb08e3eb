use Rattle.std.proofs.Common.{◌∙◌, ◌++◌, ◌∷◌, ◌+◌, [], drop, sym, ap, append_assoc}
use Rattle.adj_sweep.specs.declared.callees.Dummy.{Dummy}
use Rattle.adj_weave.specs.Marked.{unit_dummy}
use Rattle.adj_weave.specs.Orders.{dummies_said}
use Rattle.adj_weave.proofs.Known.{dummies_on}
use Rattle.adj_weave.proofs.called.dummies_of.Goals as goal

pub loop-k-preserved : goal.loop-k-preserved
loop-k-preserved c =
    let m = c.args.marked.now in
    let place = c.args.place in
    let names = c.args.names.now in
    let ws = c.args.written.now in
    let rs = c.args.read.now in
    let k = c.loop-k.k in
    let made = c.loop-k.made.items in
    let name = c.index-names-k.result in
    let rest = dummies_said m place (drop (k + 1) names) (drop (k + 1) ws) (drop (k + 1) rs) in
    let told = c.in_ok-told.ensures.dummy ∙ ap (unit_dummy m place name) c.flag_at.ensures in
    let own = λ (d : Dummy). record d { read = c.flag_at-in-loop-k.result } in
    ap (λ z. z ++ rest) c.in_ok-push.ensures.items
    ∙ append_assoc made (own c.in_ok-told.told ∷ []) rest
    ∙ (λ i. made ++ record (told i) { read = c.flag_at-in-loop-k.ensures i } ∷ rest)
    ∙ ap (λ z. made ++ z) (sym (dummies_on m place names ws rs k name c.loop-k-test.true c.index-names-k.is))
    ∙ c.loop-k.invariant
