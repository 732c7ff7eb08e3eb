use Rattle.std.proofs.Common.{◌+◌, ◌∷◌, [], map, drop, ap, sym, ◌∙◌}
use Rattle.adj_tree.specs.View.{extent_of}
use Rattle.adj_sets.specs.Sets.{all_added}
use Rattle.adj_naming.proofs.Places.{from_here}
use Rattle.adj_norm.specs.Source.{extents_in}
use Rattle.adj_norm.proofs.Adding.{added_both}
use Rattle.adj_norm.proofs.Sources.{extents_more}
use Rattle.adj_norm.proofs.source.add_extents.Goals as goal

pub loop-extent-preserved : goal.loop-extent-preserved
loop-extent-preserved c =
    let l = c.loop-extent in
    let items = c.args.extents.now in
    let e = extent_of c.extent-item.result in
    let es = map extent_of (drop (l.extent-index + 1) items) in
    ap (λ z. all_added z (extents_in es)) c.in_ok-add_extent.ensures.added ∙ sym (added_both l.names (extents_in (e ∷ [])) (extents_in es))
    ∙ ap (all_added l.names) (sym (extents_more e es)) ∙ ap (λ z. all_added l.names (extents_in (map extent_of z))) (sym (from_here items l.extent-index c.extent-item.result c.loop-extent-test.true c.extent-item.is)) ∙ l.invariant
