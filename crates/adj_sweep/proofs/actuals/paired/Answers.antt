use Rattle.std.proofs.Common.{◌∙◌, ◌++◌, ◌∷◌, [], take, length, sym, ap}
use Rattle.std.specs.Prelude.{slice_get}
use Rattle.std.proofs.lemmas.List.{take_more}
use Rattle.adj_sweep.specs.Actuals.{paired, with_pair}
use Rattle.adj_sweep.proofs.Groups.{paired_more}
use Rattle.adj_sweep.proofs.actuals.paired.Goals as goal

pub loop-name-preserved : goal.loop-name-preserved
loop-name-preserved c =
    let ds = c.args.dummies.now in
    let all = c.args.given.now in
    let i = c.loop-name.name-index in
    let x = c.name-item.result in
    c.in_ok-push_pair.ensures.pushed
    ∙ ap (λ z. with_pair (slice_get ds (length z)) x z) c.loop-name.invariant
    ∙ paired_more ds (take i all) x
    ∙ ap (paired ds) (ap (λ y. take i all ++ y ∷ []) c.name-item.is ∙ sym (take_more all i x c.loop-name-test.true))
