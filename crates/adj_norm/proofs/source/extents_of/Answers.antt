use Rattle.std.proofs.Common.{◌≡◌, ◌+◌, map, drop, ap, sym, ◌∙◌}
use Rattle.adj_tree.specs.Code.{plain, Declaration}
use Rattle.adj_tree.specs.View.{extent_of}
use Rattle.def_meaning.specs.Units.{declared}
use Rattle.adj_sets.specs.Sets.{all_added}
use Rattle.adj_naming.proofs.Places.{from_here}
use Rattle.adj_norm.specs.Source.{extents_in, all_extents_in}
use Rattle.adj_norm.proofs.Adding.{added_both}
use Rattle.adj_norm.proofs.Sources.{declared_extents}
use Rattle.adj_norm.proofs.source.extents_of.Goals as goal

pub loop-x-init : goal.loop-x-init
loop-x-init c = record { left = λ ds k. ap (λ z. all_added z (all_extents_in ds c.args.used.now)) c.in_ok-names.ensures.empty }

pub loop-x-preserved : goal.loop-x-preserved
loop-x-preserved c =
    let l = c.loop-x in
    let items = c.args.used.now in
    let x = c.x-item.result in
    let xs = drop (l.x-index + 1) items in
    record {
      left = λ ds k.
          let here : map extent_of c.as_slice.result.now ≡ declared ds (plain x) =
          ap (map extent_of) c.as_slice.ensures.members ∙ ap (λ (d : Declaration). d.extents) (c.in_ok-decl.ensures.declaration ∙ k 0 x) ∙ declared_extents 0 ds x in
          ap (λ z. all_added z (all_extents_in ds xs)) (c.in_ok-add_extents.ensures.added ∙ ap (λ es. all_added l.names (extents_in es)) here)
          ∙ sym (added_both l.names (extents_in (declared ds (plain x))) (all_extents_in ds xs))
          ∙ ap (λ z. all_added l.names (all_extents_in ds z)) (sym (from_here items l.x-index x c.loop-x-test.true c.x-item.is)) ∙ l.invariant.left ds k;
    }
