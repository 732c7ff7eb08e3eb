use Rattle.std.proofs.Common.{◌≡◌, subst}
use Rattle.std.specs.Prelude.{slice_index}
use Rattle.std.specs.List.{All, Contains}
use Rattle.adj_reach.specs.Edges.{ReachedFrom, ReachedBack}
use Rattle.adj_symbols.specs.Graph.{AreSinking, root_at}
use Rattle.adj_symbols.proofs.Graphs.{root_ahead, root_behind}
use Rattle.adj_symbols.proofs.graph.Graph.new.Goals as goal

pub invariant_of-result : goal.invariant_of-result
invariant_of-result c =
    let edges = c.args.edges.items in
    let labels = c.sinking-labels.result.items in
    let roots = c.in_ok-roots.roots.items in
    let starts = c.in_ok-starts.starts.items in
    let chosen = c.in_ok-chosen.chosen.items in
    let own : All (λ x. root_at labels roots x ≡ x) starts =
    subst (λ r. All (λ x. root_at labels r x ≡ x) starts) c.as_slice-5.ensures.value
    (subst (λ l. All (λ x. root_at l c.as_slice-5.result.now x ≡ x) starts) c.as_slice-4.ensures.value c.in_ok-starts.ensures.roots) in
    let same : All (λ e. slice_index labels e.0 ≡ slice_index labels e.1) chosen =
    subst (λ l. All (λ e. slice_index l e.0 ≡ slice_index l e.1) chosen) c.as_slice-6.ensures.value c.in_ok-chosen.ensures.same in
    let within : All (Contains edges) chosen = subst (λ es. All (Contains es) chosen) c.as_slice-7.ensures.value c.in_ok-chosen.ensures.edges in
    record {
      room = c.requires.room;
      below = c.requires.below;
      sinking = subst (AreSinking labels) c.as_slice-2.ensures.value c.sinking-labels.ensures;
      ahead_known =
          λ x t. root_ahead labels roots edges chosen starts own same within x
          (subst (λ es. ReachedFrom es starts x) c.as_slice-8.ensures.value (subst (λ ss. ReachedFrom c.as_slice-8.result.now ss x) c.as_slice-9.ensures.value ((c.in_ok-ahead.ensures.exact x).0 t)));
      behind_known =
          λ x t. root_behind labels roots edges chosen starts own same within x
          (subst (λ es. ReachedBack es starts x) c.as_slice-10.ensures.value (subst (λ ss. ReachedBack c.as_slice-10.result.now ss x) c.as_slice-11.ensures.value ((c.in_ok-behind.ensures.exact x).0 t)));
    }
