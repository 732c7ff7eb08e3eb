use Rattle.std.proofs.Common.{◌++◌, ◌∷◌, [], map, take, sym, ap, ◌∙◌, subst}
use Rattle.std.proofs.lemmas.List.{map_more, map_push}
use Rattle.adj_tree.specs.CommonView.{shared_of}
use Rattle.adj_common.specs.Entries.{AreOwn}
use Rattle.adj_common.specs.Views.{own_of}
use Rattle.adj_common.proofs.Walked.{own_push}
use Rattle.adj_common.proofs.own.all_own.Goals as goal

pub loop-unit-preserved : goal.loop-unit-preserved
loop-unit-preserved c =
    let us = c.args.units.now in
    let i = c.loop-unit.unit-index in
    let u = c.unit-item.result in
    let out = c.loop-unit.out.items in
    let o = c.in_ok-new.field-0 in
    let ss = map shared_of (take i us) in
    let units = map_more shared_of us i u c.loop-unit-test.true ∙ ap (λ z. ss ++ shared_of z ∷ []) (sym c.unit-item.is) in
    let owns = ap (map own_of) c.in_ok-push.ensures.items ∙ map_push own_of out o in
    subst (λ z. AreOwn z (map own_of c.push.new.self.items)) (sym units)
    (subst (AreOwn (ss ++ shared_of u ∷ [])) (sym owns) (own_push ss (map own_of out) (shared_of u) (own_of o) c.loop-unit.invariant c.in_ok-new.ensures.own))
