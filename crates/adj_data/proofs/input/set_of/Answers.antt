use Rattle.std.proofs.Common.{ap, ◌∙◌, ◌++◌, ◌∷◌, [], take, sym, add-one}
use Rattle.std.proofs.Math.Seq.{take-suc}
use Rattle.def_meaning.specs.Apart.{has_name}
use Rattle.adj_sets.specs.Sets.{with_added}
use Rattle.adj_sets.proofs.NameSets.{with_added_is}
use Rattle.adj_data.proofs.Entering.{stands_more}
use Rattle.adj_data.proofs.input.set_of.Goals as goal

pub loop-name-preserved : goal.loop-name-preserved
loop-name-preserved c x =
    let set = c.loop-name.set in
    let items = c.as_slice-name-items.result.now in
    let i = c.loop-name.name-index in
    let y = c.name-item.result in
    ap (has_name x) (c.in_ok-add.ensures.added ∙ ap (λ z. with_added z set) c.bytes.ensures.bytes ∙ with_added_is y set)
    ∙ stands_more x y set (take i items) c.loop-name.invariant
    ∙ ap (has_name x) (ap (λ z. take i items ++ (z ∷ [])) c.name-item.is ∙ sym (take-suc items i y c.loop-name-test.true) ∙ ap (λ k. take k items) (sym (add-one i)))
