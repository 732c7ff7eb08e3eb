use Rattle.std.proofs.Common.{◌≡◌, ◌<◌, ap, sym, subst, ◌∙◌}
use Rattle.std.specs.Prelude.{slice_index}
use Rattle.std.specs.List.{All}
use Rattle.adj_symbols.specs.Graph.{root_at}
use Rattle.adj_symbols.proofs.Graphs.{chosen_push}
use Rattle.adj_symbols.proofs.graph.starts_of.Goals as goal
use Rattle.adj_symbols.proofs.graph.starts_of.Goals.{then-number_at-node+in_ok-push, else-number_at-node}

pub loop-node-preserved : goal.loop-node-preserved
loop-node-preserved c =
    let old = c.loop-node.starts.items in
    let made = c.if-number_at-node.starts.items in
    let labels = c.args.labels.now in
    let roots = c.args.roots.now in
    elim c.if-number_at-node.branch [
      | then-number_at-node+in_ok-push w ↦
          let e = ap (λ v. v.items) w.starts-is ∙ w.in_ok-push.ensures.items in
          record {
            below = chosen_push (λ x. x < c.args.nodes) old made _ e c.loop-node.invariant.below c.loop-node-test.true;
            own = chosen_push (λ x. root_at labels roots x ≡ x) old made _ e c.loop-node.invariant.own (ap (slice_index roots) (sym c.number_at.ensures) ∙ sym c.number_at-in-loop-node.ensures ∙ w.if-number_at-node.true);
          }
      | else-number_at-node w ↦
          let e = ap (λ v. v.items) w.starts-is in
          record {
            below = subst (All (λ x. x < c.args.nodes)) (sym e) c.loop-node.invariant.below;
            own = subst (All (λ x. root_at labels roots x ≡ x)) (sym e) c.loop-node.invariant.own;
          }
    ]
