use Rattle.std.proofs.Common.{◌≡◌, ◌<◌, ap, sym, subst, ◌∙◌}
use Rattle.std.specs.Prelude.{slice_index}
use Rattle.std.specs.List.{All, Contains}
use Rattle.adj_reach.specs.Edges.{AreBelow}
use Rattle.adj_symbols.proofs.Graphs.{chosen_push, contains_at}
use Rattle.adj_symbols.proofs.graph.inside.Goals as goal
use Rattle.adj_symbols.proofs.graph.inside.Goals.{then-number_at+in_ok-push, else-number_at}

pub loop-edge-preserved : goal.loop-edge-preserved
loop-edge-preserved c =
    let old = c.loop-edge.chosen.items in
    let made = c.if-number_at.chosen.items in
    let edges = c.args.edges.now in
    let labels = c.args.labels.now in
    let i = c.loop-edge.edge-index in
    let lt = c.loop-edge-test.true in
    elim c.if-number_at.branch [
      | then-number_at+in_ok-push w ↦
          let e = ap (λ v. v.items) w.chosen-is ∙ w.in_ok-push.ensures.items in
          record {
            below = chosen_push (λ d. (d.0 < c.args.nodes) × (d.1 < c.args.nodes)) old made _ e c.loop-edge.invariant.below (c.requires i _ lt);
            same = chosen_push (λ d. slice_index labels d.0 ≡ slice_index labels d.1) old made _ e c.loop-edge.invariant.same (sym c.number_at.ensures ∙ w.if-number_at.true ∙ c.number_at-in-loop-edge.ensures);
            within = chosen_push (Contains edges) old made _ e c.loop-edge.invariant.within (contains_at edges i _ lt);
          }
      | else-number_at w ↦
          let e = ap (λ v. v.items) w.chosen-is in
          record {
            below = subst (AreBelow c.args.nodes) (sym e) c.loop-edge.invariant.below;
            same = subst (All (λ d. slice_index labels d.0 ≡ slice_index labels d.1)) (sym e) c.loop-edge.invariant.same;
            within = subst (All (Contains edges)) (sym e) c.loop-edge.invariant.within;
          }
    ]
