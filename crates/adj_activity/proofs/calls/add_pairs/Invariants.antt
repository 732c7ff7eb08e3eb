-- The edges of the pairs passed, and of those that are left.
use Rattle.std.proofs.Common.{◌≡◌, ◌++◌, map, drop}
use Rattle.std.specs.List.{flat_map}
use Rattle.adj_flow.specs.Rows.{row_of}
use Rattle.adj_activity.specs.View.{pair_edges}
use Rattle.adj_flow.specs.Pairs.{pair_of}
use Rattle.adj_activity.proofs.calls.add_pairs.Given as goal

abbrev pub invariant-loop-pair : goal.invariant-loop-pair
invariant-loop-pair l =
    l.edges.items ++ flat_map (λ b. pair_edges l.site.steps l.site.width (row_of l.site.part.now) l.statement (row_of l.called) b.0 b.1) (map pair_of (drop l.pair-index l.pairs))
    ≡ l.initial.edges.items ++ flat_map (λ b. pair_edges l.site.steps l.site.width (row_of l.site.part.now) l.statement (row_of l.called) b.0 b.1) (map pair_of l.pairs)
